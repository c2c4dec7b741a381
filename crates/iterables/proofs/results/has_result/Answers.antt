use Rattle.std.proofs.Common.{subst}
use Rattle.iterables.specs.Told.{FindsOne, Gives}
use Rattle.iterables.proofs.Giving.{same_told}
use Rattle.iterables.proofs.results.has_result.Goals as goal

pub returns-in-Some : goal.returns-in-Some
returns-in-Some c =
    same_told c.args.w.now c.args.c c.args.m c.in-Some.r c.args.t.now c.is_same.result (subst (FindsOne (Gives c.args.w.now c.args.c c.args.m)) c.in-Some.is c.in_ok-r.ensures) c.is_same.ensures

pub returns-in-None : goal.returns-in-None
returns-in-None c = (λ e. absurd (cc e), λ h. absurd (subst (FindsOne (Gives c.args.w.now c.args.c c.args.m)) c.in-None.is c.in_ok-r.ensures c.args.t.now h))
