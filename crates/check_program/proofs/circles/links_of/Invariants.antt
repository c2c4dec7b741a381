use Rattle.std.proofs.Common.{◌≡◌, ◌+◌, ◌++◌, ℕ, map, drop, take, length}
use Rattle.java_core.specs.View.{member_plain}
use Rattle.check_program.specs.Classes as spec
use Rattle.check_program.proofs.circles.links_of.Given as goal

abbrev pub invariant-loop-m : goal.invariant-loop-m
invariant-loop-m l = l.links ++ spec.links_of (map member_plain (drop l.m-index l.ms)) ≡ spec.links_of (map member_plain l.ms)
