use Rattle.std.proofs.Common.{sym, subst}
use Rattle.class_world.specs.Subtypes.{Subtype, same}
use Rattle.class_world.specs.Sound.{IsSuper}
use Rattle.class_world.proofs.shortcuts.far_type.Goals as goal

pub returns-in_ok-copied-in-None : goal.returns-in_ok-copied-in-None
returns-in_ok-copied-in-None c = λ n is.
    let w = c.args.w.now in
    let alike = sym c.in_ok-copied-in-None.ensures in
    (subst (IsSuper w n) alike is, subst (Subtype w c.args.d.now) alike same)
