use Rattle.std.proofs.Common.{◌≡◌, List, []}
use Rattle.class_world.specs.declared.world.JavaType.{JavaType}
use Rattle.class_world.specs.declared.world.JavaType.TheVariants as ty
use Rattle.method_ties.proofs.Firsts.{Gathers}
use Rattle.method_ties.proofs.supers.supertypes.Given as goal

abbrev pub invariant-loop-d : goal.invariant-loop-d
invariant-loop-d l = Gathers (λ d s. (args : List JavaType) × (d ≡ ty.Class s args)) [] l.d-items l.supers.items l.d-index
