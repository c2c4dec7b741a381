use Rattle.std.proofs.Common.{◌≡◌, ◌++◌, drop}
use Rattle.built_in_types.specs.BuiltIns.{owned_from, rows}
use Rattle.built_in_types.specs.declared.rows.TheConstants.{METHODS}
use Rattle.built_in_types.proofs.types.owned.Given as goal

abbrev pub invariant-loop-number : goal.invariant-loop-number
invariant-loop-number l = l.numbers ++ owned_from l.owner l.number (drop l.number METHODS) ≡ owned_from l.owner 0 rows
