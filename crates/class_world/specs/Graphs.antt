-- The graph of the classes, from each to those of its declared supertypes.
use Rattle.std.specs.Prelude.{◌≡◌, ℕ, List, Some, slice_get, length}
use Rattle.class_world.specs.declared.world.World.{World}
use Rattle.class_world.specs.declared.world.TypeInfo.{TypeInfo}
use Rattle.class_world.specs.declared.world.JavaType.{JavaType}
use Rattle.class_world.specs.declared.world.JavaType.TheVariants as ty

-- two lists of one length, whose elements belong to each other place by place
abbrev pub ArePairs : {A B : Type 0} → (A → B → Type 0) → List A → List B → Type 0
ArePairs {A = A} {B = B} R xs ys = (length ys ≡ length xs) × ((k : ℕ) (x : A) → slice_get xs k ≡ Some x → (y : B) × (slice_get ys k ≡ Some y) × R x y)

-- the classes of the types, one after the other
abbrev pub AreClassesOf : List JavaType → List ℕ → Type 0
AreClassesOf = ArePairs (λ d c. (g : ℕ) (xs : List JavaType) → d ≡ ty.Class g xs → c ≡ g)

abbrev pub IsSuperGraph : World → List (List ℕ) → Type 0
IsSuperGraph w graph = ArePairs (λ (info : TypeInfo) classes. AreClassesOf info.supers classes) w.types graph
