use Rattle.std.proofs.Common.{◌≡◌, ◌+◌, ◌++◌, ℕ, map, drop, take, length}
use Rattle.java_tree.specs.View as view
use Rattle.std.specs.List.{list_any}
use Rattle.check_program.specs.Classes as spec
use Rattle.check_program.proofs.classes.has_constructor.Given as goal

abbrev pub invariant-loop-m : goal.invariant-loop-m
invariant-loop-m l = list_any spec.is_constructor (map view.member_plain (drop l.m-index l.ms)) ≡ list_any spec.is_constructor (map view.member_plain l.ms)
