use Rattle.std.proofs.Common.{◌≡◌, ℕ, Some, map}
use Rattle.std.specs.Prelude.{slice_get}
use Rattle.class_world.specs.declared.world.MethodInfo.{MethodInfo}
use Rattle.class_world.specs.Types.{substitute}
use Rattle.member_methods.proofs.Firsts.{Among}
use Rattle.member_methods.proofs.signatures.is_one_put.Given as goal

abbrev pub invariant-loop-k : goal.invariant-loop-k
invariant-loop-k l = (k : ℕ) → Among l.methods l.k-index k → (info : MethodInfo) × (slice_get l.w.methods k ≡ Some info) × (map (substitute l.args) l.params ≡ info.params) → ⊥
