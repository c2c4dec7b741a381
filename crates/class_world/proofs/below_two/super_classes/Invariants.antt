use Rattle.std.proofs.Common.{◌≡◌, ℕ, List}
use Rattle.class_world.specs.declared.world.JavaType.{JavaType}
use Rattle.class_world.specs.declared.world.JavaType.TheVariants as ty
use Rattle.class_world.proofs.Generics.{ArePairsTo}
use Rattle.class_world.proofs.below_two.super_classes.Given as goal

abbrev pub invariant-loop-d : goal.invariant-loop-d
invariant-loop-d l = ArePairsTo (λ d c. (g : ℕ) (xs : List JavaType) → d ≡ ty.Class g xs → c ≡ g) l.supers l.classes l.d-index
