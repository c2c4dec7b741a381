use Rattle.std.proofs.Common.{◌≡◌, Some, slice_get, sym, ap, ◌∙◌, arith}
use Rattle.std.specs.Option.{option_copied}
use Rattle.generalize_declared.proofs.Begins.{small_at, too_far}
use Rattle.generalize_declared.proofs.asked.place_asked.Goals as goal

pub returns-in_default : goal.returns-in_default
returns-in_default c = too_far c.args.w.now c.args.source.now c.args.wish c.requires c.in_default.ensures

pub offset_at-requires : goal.offset_at-requires
offset_at-requires c =
    let there : slice_get c.args.source.now.texts.now c.args.wish.file ≡ Some c.as_slice-2.result.now = sym c.item_at.ensures ∙ ap option_copied c.in-Some-item_at.is ∙ ap Some (sym c.as_slice-2.ensures) in
    let size = small_at c.args.source.now.texts.now c.args.wish.file c.as_slice-2.result.now c.requires there in
    record { size = omega (arith, size) }

pub overflow_cast-at : goal.overflow_cast-at
overflow_cast-at c =
    let there : slice_get c.args.source.now.texts.now c.args.wish.file ≡ Some c.as_slice-2.result.now = sym c.item_at.ensures ∙ ap option_copied c.in-Some-item_at.is ∙ ap Some (sym c.as_slice-2.ensures) in
    let size = small_at c.args.source.now.texts.now c.args.wish.file c.as_slice-2.result.now c.requires there in
    omega (arith, size, c.in-Some-offset_at.ensures.within)
