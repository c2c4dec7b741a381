use Rattle.std.proofs.Common.{◌≡◌, length, refl, arith}
use Rattle.program_maps.specs.Ways.{goes_to}
use Rattle.alike_tables.specs.Tables.{moved_held}
use Rattle.alike_tables.proofs.Lists.{moved_lists}
use Rattle.alike_tables.proofs.types.are_held_kept.Goals as goal

pub returns : goal.returns
returns c =
    let before = c.args.before.now in
    let after = c.args.after.now in
    let same : length before ≡ length after = omega (arith, c.if-before-after.false) in (
      λ holds. moved_lists (moved_held (goes_to c.args.fields.now)) before after same (λ k low. c.loop-at.invariant k (omega (arith, low, c.loop-at-test.false))),
      λ moved. refl,
    )
