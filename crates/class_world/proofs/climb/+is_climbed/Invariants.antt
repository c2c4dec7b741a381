use Rattle.class_world.proofs.Heights.{height}
use Rattle.class_world.proofs.climb.+is_climbed.Given as goal

abbrev pub decreases-is_climbed : goal.decreases-is_climbed
decreases-is_climbed l = height l.w.now l.c
