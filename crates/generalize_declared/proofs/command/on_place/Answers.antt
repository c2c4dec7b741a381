use Rattle.std.proofs.Common.{refl, sym, subst, arith}
use Rattle.generalize_declared.specs.Asked.{HasPlace, IsTarget}
use Rattle.generalize_declared.proofs.command.on_place.Goals as goal

pub returns-in_default : goal.returns-in_default
returns-in_default c =
    λ fs are.
    let s = c.args.source.now in
    let x = c.args.wish in
    let p = c.args.place.now in
    let world = (are 0 (omega (arith, c.requires.file))).world in
    (p, c.requires.clean, subst (λ w. HasPlace w s x p) (sym world) c.requires.place, refl, λ k h. c.in_default.ensures.none k (subst (λ w. IsTarget w s x.file c.args.word.now k) world h))
