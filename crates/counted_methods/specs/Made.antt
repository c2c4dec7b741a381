-- What is kept, as far as it is made.
use Rattle.std.specs.Prelude.{◌≡◌, ℕ, ◌<◌, ◌≤◌, ◌↔◌, ◌⊎◌, List, [], Option, Some, None, slice_get, length}
use Rattle.std.specs.List.{Contains}
use Rattle.std.specs.List.Sorted.{IsStrictlyIncreasing}
use Rattle.std.specs.HashMap.{get}
use Rattle.java_tree.specs.declared.tree.Name.{Name}
use Rattle.class_world.specs.declared.world.World.{World}
use Rattle.class_world.specs.declared.world.JavaType.{JavaType}
use Rattle.class_world.specs.declared.world.JavaType.TheVariants as ty
use Rattle.class_world.specs.Inheritance.{IsMemberMethod, IsMethodNamed}
use Rattle.class_world.specs.Overriding.{IsClass, IsSuperclass}
use Rattle.class_world.specs.Counted.{Counts, HasCounted}
use Rattle.member_methods.specs.Methods.{AreNamed}
use Rattle.counted_methods.specs.declared.Place.{Place}
use Rattle.counted_methods.specs.declared.CountedMethods.{CountedMethods}
use Rattle.counted_methods.specs.Table.{AreKept, kept_at, same_place}

-- the type is one of the class s, which is no interface
abbrev pub IsClassType : World → JavaType → ℕ → Type 0
IsClassType w d s = ((args : List JavaType) × (d ≡ ty.Class s args)) × IsClass w s

-- the only superclass of c, or that it has none
abbrev pub TellsSuperclass : World → ℕ → Option ℕ → Type 0
TellsSuperclass w c None = (s : ℕ) → IsSuperclass w c s → ⊥
TellsSuperclass w c (Some s) = IsSuperclass w c s × ((t : ℕ) → IsSuperclass w c t → t ≡ s)

-- the old lists keep their numbers
pub record Grows (old new : List (List ℕ)) : Type 0 where
  pub size : length old ≤ length new
  pub kept : (n : ℕ) (xs : List ℕ) → slice_get old n ≡ Some xs → slice_get new n ≡ Some xs

-- each number is that of a list, and what is kept is ascending
pub record IsOrderly (t : CountedMethods) : Type 0 where
  pub within : (q : Place) (n : ℕ) → get same_place t.places q ≡ Some n → n < length t.lists
  pub ascending : (c : ℕ) (n : Name) (arity : ℕ) (xs : List ℕ) → kept_at t c n arity ≡ Some xs → IsStrictlyIncreasing xs

-- the list of all members, where none is kept
abbrev pub AreListed : World → ℕ → Name → ℕ → Option (List ℕ) → List ℕ → Type 0
AreListed w c n arity None xs = AreNamed w c n arity xs
AreListed w c n arity (Some ms) xs = xs ≡ ms

-- the list is the new one of a place, and other places have what they had
pub record IsPut (c : ℕ) (n : Name) (arity : ℕ) (xs : List ℕ) (old new : CountedMethods) : Type 0 where
  pub orderly : IsOrderly new
  pub here : kept_at new c n arity ≡ Some xs
  pub others : (d : ℕ) (k : Name) (count : ℕ) → ((d ≡ c) × (k ≡ n) × (count ≡ arity)) ⊎ (kept_at new d k count ≡ kept_at old d k count)

-- what the superclass counts, if there is one
abbrev pub IsAbove : World → CountedMethods → Option ℕ → List ℕ → Type 0
IsAbove w t None counted = counted ≡ []
IsAbove w t (Some s) counted = ((m : ℕ) → Contains counted m → IsMemberMethod w s m) × ((n : Name) (arity : ℕ) → AreKept w s n arity (Contains counted) (kept_at t s n arity))

-- m is the first of the members of its name and number of parameters
abbrev pub IsLowest : World → ℕ → Name → ℕ → ℕ → Type 0
IsLowest w c n arity m = IsMethodNamed w c n arity m × ((k : ℕ) → IsMethodNamed w c n arity k → m ≤ k)

-- What counts of the members of m's name and number of parameters is kept, if m is the first of them, and all else is right or stays.
pub record IsAdded (w : World) (c m : ℕ) (counted : List ℕ) (old new : CountedMethods) : Type 0 where
  pub orderly : IsOrderly new
  pub others : (d : ℕ) (n : Name) (arity : ℕ) → (d ≡ c → ⊥) → kept_at new d n arity ≡ kept_at old d n arity
  pub each : (n : Name) (arity : ℕ) → (kept_at new c n arity ≡ kept_at old c n arity) ⊎ AreKept w c n arity (Counts w c counted) (kept_at new c n arity)
  pub told : (n : Name) (arity : ℕ) → IsLowest w c n arity m → AreKept w c n arity (Counts w c counted) (kept_at new c n arity) ⊎ AreKept w c n arity (Counts w c counted) None

-- what counts in c is kept
pub record IsDone (w : World) (t : CountedMethods) (c : ℕ) : Type 0 where
  pub counted : List ℕ
  pub has : HasCounted w c counted
  pub only : (ms : List ℕ) → HasCounted w c ms → (m : ℕ) → Contains ms m ↔ Contains counted m
  pub told : (n : Name) (arity : ℕ) → AreKept w c n arity (Contains counted) (kept_at t c n arity)

-- there are more numbers, and this is the first
abbrev pub IsFirstOfMore : List ℕ → ℕ → Type 0
IsFirstOfMore xs m = (1 < length xs) × (slice_get xs 0 ≡ Some m)
