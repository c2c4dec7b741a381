use Rattle.std.proofs.Common.{ℕ}
use Rattle.class_world.specs.declared.world.World.{World}
use Rattle.class_world.specs.Overriding.{Overriding}
use Rattle.overrides.specs.Overrides.{HoldsOverrides}
use Rattle.inherited_rules.proofs.Named.{AreClear}
use Rattle.inherited_rules.proofs.unresolved.are_overridden.Given as goal

abbrev pub invariant-loop-t : goal.invariant-loop-t
invariant-loop-t l = (w : World) → HoldsOverrides w l.overrides → AreClear (λ (t : ℕ). Overriding w t l.m × Overriding w t l.k) l.tops l.t-index
