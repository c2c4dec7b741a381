use Rattle.std.proofs.Common.{◌≡◌, ◌++◌, drop}
use Rattle.built_in_types.specs.BuiltIns.{types_from, built_in_types}
use Rattle.built_in_types.specs.declared.types.TheConstants.{SUPERCLASSES}
use Rattle.built_in_types.proofs.types.types.Given as goal

abbrev pub invariant-loop-number : goal.invariant-loop-number
invariant-loop-number l = l.types ++ types_from l.words l.number (drop l.number SUPERCLASSES) ≡ built_in_types l.words
