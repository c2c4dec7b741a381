use Rattle.std.proofs.Common.{◌≡◌, ◌+◌, ◌++◌, ℕ, map, drop, take, length}
use Rattle.java_tree.specs.View as view
use Rattle.check_program.specs.Classes as spec
use Rattle.check_program.proofs.classes.blanks_of.Given as goal

abbrev pub invariant-loop-m : goal.invariant-loop-m
invariant-loop-m l = l.blanks ++ spec.blanks_of l.interface l.field (map view.member_plain (drop l.m-index l.ms)) ≡ spec.blanks_of l.interface l.initial.field (map view.member_plain l.ms)
