use Rattle.std.proofs.Common.{◌≡◌, map, take}
use Rattle.java_core.specs.View.{written}
use Rattle.operator_rules.specs.Writtens.{type_said}
use Rattle.operator_rules.proofs.writtens.types_said.Given as goal

abbrev pub invariant-loop-x : goal.invariant-loop-x
invariant-loop-x l = l.types ≡ map type_said (map written (take l.x-index l.xs))
