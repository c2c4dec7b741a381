-- The classes in an order in which each comes after those that it extends or implements.
use Rattle.std.specs.Prelude.{◌≡◌, ℕ, ◌<◌, List, Some, slice_get, length}
use Rattle.class_world.specs.declared.world.World.{World}
use Rattle.class_world.specs.declared.world.JavaType.{JavaType}
use Rattle.class_world.specs.declared.world.JavaType.TheVariants as ty
use Rattle.class_world.specs.DirectSupers.{IsDirectSuper}

-- All classes of the world, by number, each once, and no other number; and before each stand the classes of its declared supertypes.
pub record IsSequence (w : World) (s : List ℕ) : Type 0 where
  pub known : (i c : ℕ) → slice_get s i ≡ Some c → c < length w.types
  pub all : (c : ℕ) → c < length w.types → (i : ℕ) × (slice_get s i ≡ Some c)
  pub once : (i j c : ℕ) → slice_get s i ≡ Some c → slice_get s j ≡ Some c → i ≡ j
  pub before : (i c g : ℕ) (args : List JavaType) → slice_get s i ≡ Some c → IsDirectSuper w c (ty.Class g args) → (j : ℕ) × (j < i) × (slice_get s j ≡ Some g)
