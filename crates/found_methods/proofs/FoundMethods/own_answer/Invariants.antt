use Rattle.std.proofs.Common.{ℕ}
use Rattle.class_world.specs.declared.world.World.{World}
use Rattle.member_methods.specs.Methods.{HoldsMethods}
use Rattle.overrides.specs.Overrides.{HoldsOverrides}
use Rattle.method_ties.proofs.Firsts.{Among}
use Rattle.found_methods.specs.Found.{HoldsFound, IsInPlaceOf}
use Rattle.found_methods.proofs.FoundMethods.own_answer.Given as goal

abbrev pub invariant-loop-k : goal.invariant-loop-k
invariant-loop-k l = (w : World) → HoldsFound w l.self → HoldsOverrides w l.overrides → HoldsMethods w l.lists → (j : ℕ) → Among l.k-items l.k-index j → IsInPlaceOf w l.object j l.method → ⊥
