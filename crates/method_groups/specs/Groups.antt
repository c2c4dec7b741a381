-- Groups of methods by number.
use Rattle.std.specs.Prelude.{◌≡◌, ℕ, ◌<◌, ◌↔◌, List, Option, Some, slice_get, length}
use Rattle.std.specs.List.{Contains}
use Rattle.std.specs.List.Sorted.{IsStrictlyIncreasing}
use Rattle.class_world.specs.declared.world.World.{World}
use Rattle.class_world.specs.Inheritance.{IsGrouped}
use Rattle.method_groups.specs.declared.MethodGroups.{MethodGroups}
use Rattle.method_groups.specs.declared.constructors.Shape.{Shape}
use Rattle.method_groups.specs.declared.labels.Row.{Row}
use Rattle.method_groups.specs.declared.made.Made.{Made}
use Rattle.method_groups.specs.Labels.{IsOverload}
use Rattle.method_groups.specs.Taking.{AreTakers}
use Rattle.method_groups.specs.Constructors.{IsConstructor}

-- the list at the place p has what P holds of, ascending
pub record HasList (lists : List (List ℕ)) (p : ℕ) (P : ℕ → Type 0) : Type 0 where
  pub list : List ℕ
  pub at : slice_get lists p ≡ Some list
  pub has : (k : ℕ) → Contains list k ↔ P k
  pub ascending : IsStrictlyIncreasing list

abbrev pub KeepsLists : List (List ℕ) → List (List ℕ) → Type 0
KeepsLists old new = (p : ℕ) (list : List ℕ) → slice_get old p ≡ Some list → slice_get new p ≡ Some list

-- each constructor's shape has a place, and the list there has the constructors of this shape
abbrev pub HoldsConstructors : World → (Shape → Option ℕ) → List (List ℕ) → Type 0
HoldsConstructors w find lists = (q : Shape) (m : ℕ) → IsConstructor w q m → (p : ℕ) × (find q ≡ Some p) × HasList lists p (IsConstructor w q)

-- a label that has a place has its list there
pub record AreMade (w : World) (rows : List Row) (made : Made) : Type 0 where
  pub size : length made.by_label.items ≡ length rows
  pub each : (n p : ℕ) → slice_get made.by_label.items n ≡ Some (Some p) → HasList made.groups.items p (IsOverload w rows n)

-- so it is with the labels, and each method has a taker
pub record AreReady (w : World) (rows : List Row) (t : Made) : Type 0 where
  pub made : AreMade w rows t
  pub size : length t.takers.items ≡ length w.methods
  pub takers : AreTakers t.by_label.items t.takers.items

-- each method has a place, and the list there is its group
pub record HoldsGroups (w : World) (t : MethodGroups) : Type 0 where
  pub each : (m : ℕ) → m < length w.methods → (p : ℕ) × (slice_get t.places.items m ≡ Some p) × HasList t.groups.items p (IsGrouped w m)
