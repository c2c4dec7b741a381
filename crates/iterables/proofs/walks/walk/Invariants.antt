use Rattle.std.proofs.Common.{ℕ, ◌<◌}
use Rattle.class_world.specs.declared.world.Walk.{Walk}
use Rattle.iterables.specs.Told.{IsUsableAt}
use Rattle.iterables.proofs.walks.walk.Given as goal

abbrev pub invariant-loop-c : goal.invariant-loop-c
invariant-loop-c l = (d : ℕ) → d < l.c → (v : Walk) → IsUsableAt l.names l.w d v → ⊥
