use Rattle.std.proofs.Common.{ℕ}
use Rattle.class_world.specs.declared.world.World.{World}
use Rattle.class_world.specs.Overriding.{Overriding}
use Rattle.overrides.specs.Overrides.{HoldsOverrides}
use Rattle.method_ties.proofs.Firsts.{Among}
use Rattle.found_methods.proofs.FoundMethods.overrides_for.Given as goal

abbrev pub invariant-loop-t : goal.invariant-loop-t
invariant-loop-t l = (w : World) → HoldsOverrides w l.overrides → (t : ℕ) → Among l.t-items l.t-index t → Overriding w t l.m × Overriding w l.k t → ⊥
