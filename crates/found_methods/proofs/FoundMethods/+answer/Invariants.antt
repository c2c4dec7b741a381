use Rattle.std.proofs.Common.{ℕ, ◌<◌, ◌≤◌, length}
use Rattle.class_world.specs.declared.world.World.{World}
use Rattle.class_world.specs.Overriding.{IsAnswer}
use Rattle.member_methods.specs.Methods.{HoldsMethods}
use Rattle.overrides.specs.Overrides.{HoldsOverrides}
use Rattle.method_ties.proofs.Firsts.{Among}
use Rattle.found_methods.specs.Found.{HoldsFound}
use Rattle.found_methods.proofs.FoundMethods.+answer.Given as goal

abbrev pub invariant-loop-s : goal.invariant-loop-s
invariant-loop-s l =
    (w : World) (holds : HoldsFound w l.self) → HoldsOverrides w l.overrides → HoldsMethods w l.lists → l.method < length w.methods → l.class < length w.types → holds.ranked.rank l.class ≤ l.steps
    → (s : ℕ) → Among l.s-items l.s-index s → (k : ℕ) → IsAnswer w l.object l.method s k → ⊥

abbrev pub decreases-answer : goal.decreases-answer
decreases-answer l = l.steps
