use Rattle.std.proofs.Common.{◌≡◌, ◌++◌, drop, map}
use Rattle.built_in_types.specs.BuiltIns.{method_info, built_in_methods}
use Rattle.built_in_types.specs.declared.rows.TheConstants.{METHODS}
use Rattle.built_in_types.proofs.types.methods.Given as goal

abbrev pub invariant-loop-row : goal.invariant-loop-row
invariant-loop-row l = l.methods ++ map (method_info l.words) (drop l.row-index METHODS) ≡ built_in_methods l.words
