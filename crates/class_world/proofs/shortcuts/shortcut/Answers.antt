use Rattle.std.proofs.Common.{◌≡◌, Some, refl, sym, ap, ◌∙◌}
use Rattle.std.specs.Prelude.{slice_get}
use Rattle.std.proofs.lemmas.Option.{slice_get_read}
use Rattle.class_world.proofs.Leaps.{from_super}
use Rattle.class_world.proofs.shortcuts.shortcut.Goals as goal

pub returns-in_ok-far_type-in-Some : goal.returns-in_ok-far_type-in-Some
returns-in_ok-far_type-in-Some c =
    let info = c.args.info.now in
    let supers = c.as_slice-supers.result.now in
    let k = c.highest.result in
    let d = c.in-Some.d.now in
    let found = c.in-Some.ensures.lookup in
    let there : slice_get info.supers k ≡ Some d = ap (λ ds. slice_get ds k) (sym c.as_slice-supers.ensures) ∙ slice_get_read supers _ k d refl found.3.0 found.1 in
    from_super c.args.w.now c.requires.supers c.args.c info d c.in_ok-far_type-in-Some.field-0 c.requires.known (info, c.requires.known, k, there) c.in_ok-far_type-in-Some.ensures
