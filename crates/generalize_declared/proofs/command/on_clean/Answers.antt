use Rattle.std.proofs.Common.{subst, arith}
use Rattle.generalize_declared.specs.Asked.{HasPlace, PlaceIs}
use Rattle.generalize_declared.proofs.command.on_clean.Goals as goal

pub returns-in-None : goal.returns-in-None
returns-in-None c =
    λ fs are.
    let s = c.args.source.now in
    let x = c.args.wish in
    let world = (are 0 (omega (arith, c.requires.file))).world in
    let none = subst (PlaceIs c.args.q.now.world.now s x) c.in-None.is c.in_ok-place.ensures in
    (c.requires.clean, λ p h. none p (subst (λ w. HasPlace w s x p) world h))
