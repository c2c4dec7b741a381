use Rattle.std.proofs.Common.{◌≡◌, map, drop}
use Rattle.std.specs.List.{list_all}
use Rattle.class_world.proofs.Weights.{weight, weights}
use Rattle.program_world.specs.ProgramWorld.{passes, argument}
use Rattle.program_world.proofs.written.+whole.Given as goal

abbrev pub decreases-is_whole : goal.decreases-is_whole
decreases-is_whole l = weight l.ty.now

abbrev pub decreases-are_whole : goal.decreases-are_whole
decreases-are_whole l = weights l.args.now

abbrev pub invariant-are_whole-loop-arg : goal.invariant-are_whole-loop-arg
invariant-are_whole-loop-arg l = list_all passes (map argument l.args) ≡ list_all passes (map argument (drop l.arg-index l.args))
