use Rattle.std.proofs.Common.{◌≡◌, map}
use Rattle.type_names.specs.Known.{built_in_type, numbers_below}
use Rattle.type_names.specs.Tables.{brief}
use Rattle.type_names.proofs.known.built_in_types.Given as goal

abbrev pub invariant-loop-number : goal.invariant-loop-number
invariant-loop-number l = l.types.items ≡ map (brief l.packages) (map (built_in_type l.fn.java) (numbers_below l.number))
