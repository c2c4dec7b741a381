use Rattle.std.proofs.Common.{◌+◌}
use Rattle.class_world.proofs.Frames.{frames}
use Rattle.class_world.proofs.Weights.{weight, weights}
use Rattle.class_world.proofs.seen.+is_seen.Given as goal

abbrev pub decreases-is_seen : goal.decreases-is_seen
decreases-is_seen l = frames l.seen.now + weight l.t.now

abbrev pub decreases-are_seen : goal.decreases-are_seen
decreases-are_seen l = frames l.seen.now + weights l.ys.now
