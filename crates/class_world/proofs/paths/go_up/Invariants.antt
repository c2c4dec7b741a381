use Rattle.std.proofs.Common.{vec_len}
use Rattle.class_world.specs.Meets.{ArePaths}
use Rattle.class_world.proofs.paths.go_up.Given as goal

abbrev pub invariant-loop-c : goal.invariant-loop-c
invariant-loop-c l = ArePaths l.w l.paths

abbrev pub decreases-loop-c : goal.decreases-loop-c
decreases-loop-c l = vec_len l.way
