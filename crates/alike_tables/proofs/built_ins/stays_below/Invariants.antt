use Rattle.program_maps.specs.Ways.{goes_to}
use Rattle.alike_tables.specs.Tables.{StaysBelow}
use Rattle.alike_tables.proofs.built_ins.stays_below.Given as goal

abbrev pub invariant-loop-number : goal.invariant-loop-number
invariant-loop-number l = StaysBelow l.number (goes_to l.numbers)
