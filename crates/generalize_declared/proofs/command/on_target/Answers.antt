use Rattle.std.proofs.Common.{subst}
use Rattle.generalize_declared.specs.Plans.{IsTried}
use Rattle.generalize_declared.proofs.command.on_target.Goals as goal

pub returns-in-Some : goal.returns-in-Some
returns-in-Some c =
    λ fs are asked.
    let p = c.args.place.now in
    let tried = c.in_ok-tried.tried in
    (p, c.args.target, tried.changes, asked, subst (IsTried (fs 0) c.args.source.now p c.args.target tried.changes) c.in-Some.is (c.in_ok-tried.ensures fs are))

pub returns : goal.returns
returns c =
    λ fs are asked.
    let tried = c.in_ok-tried.tried in
    c.on_met.ensures fs are (asked, subst (IsTried (fs 0) c.args.source.now c.args.place.now c.args.target tried.changes) c.in-None.is (c.in_ok-tried.ensures fs are))
