-- Constructors by their class and their number of parameters.
use Rattle.std.specs.Prelude.{◌≡◌, ℕ, true, Bool, nat_eq, ◌&&◌, List, Option, Some, slice_get, length}
use Rattle.std.specs.List.{Contains}
use Rattle.std.specs.List.Sorted.{IsStrictlyIncreasing}
use Rattle.std.specs.declared.hash.FoldHasher.{FoldHasher}
use Rattle.std.specs.declared.hash.BuildHasherDefault.{BuildHasherDefault}
use Rattle.std.specs.HashMap.{get, HashMap}
use Rattle.class_world.specs.declared.world.World.{World}
use Rattle.class_world.specs.declared.world.MethodInfo.{MethodInfo}
use Rattle.method_groups.specs.declared.constructors.Shape.{Shape}

abbrev pub shape_of : MethodInfo → Shape
shape_of info = record { owner = info.owner; arity = length info.params }

abbrev pub same_shape : Shape → Shape → Bool
same_shape k q = nat_eq k.owner q.owner && nat_eq k.arity q.arity

abbrev pub Places : Type 0
Places = HashMap Shape ℕ (BuildHasherDefault FoldHasher)

abbrev pub found_in : Places → Shape → Option ℕ
found_in places q = get same_shape places q

-- the method k is a constructor of this shape
abbrev pub IsConstructor : World → Shape → ℕ → Type 0
IsConstructor w q k = (info : MethodInfo) × (slice_get w.methods k ≡ Some info) × (info.constructor ≡ true) × (shape_of info ≡ q)

-- k is in the list at the shape's place
abbrev pub IsListed : (Shape → Option ℕ) → List (List ℕ) → Shape → ℕ → Type 0
IsListed find lists q k = (p : ℕ) × (list : List ℕ) × (find q ≡ Some p) × (slice_get lists p ≡ Some list) × Contains list k

-- each shape that has a place has a list there of its own, ascending
pub record AreLists (find : Shape → Option ℕ) (lists : List (List ℕ)) : Type 0 where
  pub there : (q : Shape) (p : ℕ) → find q ≡ Some p → (list : List ℕ) × (slice_get lists p ≡ Some list)
  pub ascending : (p : ℕ) (list : List ℕ) → slice_get lists p ≡ Some list → IsStrictlyIncreasing list
  pub single : (q r : Shape) (p : ℕ) → find q ≡ Some p → find r ≡ Some p → q ≡ r
