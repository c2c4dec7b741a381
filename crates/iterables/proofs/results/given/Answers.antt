use Rattle.std.proofs.Common.{Some, subst}
use Rattle.seen_methods.specs.Seen.{TellsResult}
use Rattle.iterables.proofs.Giving.{result_told}
use Rattle.iterables.proofs.results.given.Goals as goal

pub returns-in-Some : goal.returns-in-Some
returns-in-Some c = result_told c.args.w.now c.args.c c.args.m c.in-Some.r (subst (TellsResult c.args.w.now c.args.c c.args.m) c.in-Some.is c.in_ok-r.ensures)

pub returns-in-None : goal.returns-in-None
returns-in-None c = λ t h. subst (TellsResult c.args.w.now c.args.c c.args.m) c.in-None.is c.in_ok-r.ensures (Some t) h
