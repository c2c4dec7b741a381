use Rattle.program_maps.specs.Ways.{goes_to}
use Rattle.alike_tables.specs.Tables.{AllBelow}
use Rattle.alike_tables.proofs.Lists.{IsMovedAt}
use Rattle.alike_tables.specs.Tables.{moved_held}
use Rattle.alike_tables.proofs.types.are_held_kept.Given as goal

abbrev pub invariant-loop-at : goal.invariant-loop-at
invariant-loop-at l = AllBelow l.at (IsMovedAt (moved_held (goes_to l.fields)) l.before l.after)
