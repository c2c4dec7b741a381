use Rattle.std.proofs.Common.{◌≡◌, ◌+◌, map}
use Rattle.std.specs.Prelude.{take}
use Rattle.class_world.specs.Types.{substitute}
use Rattle.class_world.proofs.Weights.{weight, weights}
use Rattle.seen_methods.proofs.puts.+puts.Given as goal

abbrev pub decreases-substituted : goal.decreases-substituted
decreases-substituted l = weights l.args.now + weight l.t.now

abbrev pub decreases-all_substituted : goal.decreases-all_substituted
decreases-all_substituted l = weights l.args.now + weights l.xs.now

abbrev pub invariant-all_substituted-loop-x : goal.invariant-all_substituted-loop-x
invariant-all_substituted-loop-x l = l.ys ≡ map (substitute l.args) (take l.x-index l.xs)
