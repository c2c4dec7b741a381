-- What is kept of the members that count.
use Rattle.std.specs.Prelude.{ℕ, ◌↔◌, Bool, List, Option, Some, None, slice_get}
use Rattle.std.specs.Option.{option_and_then}
use Rattle.std.specs.List.{Contains}
use Rattle.std.specs.List.Sorted.{IsStrictlyIncreasing}
use Rattle.std.specs.HashMap.{get}
use Rattle.java_tree.specs.declared.tree.Name.{Name}
use Rattle.class_world.specs.declared.world.World.{World}
use Rattle.class_world.specs.Sound.{IsKnown}
use Rattle.class_world.specs.Inheritance.{IsMethodNamed}
use Rattle.class_world.specs.Counted.{HasCounted, IsCountedNamed}
use Rattle.counted_methods.specs.contracts.PlacePartialEq.TheImpl.{eq-value}
use Rattle.counted_methods.specs.declared.Place.{Place}
use Rattle.counted_methods.specs.declared.CountedMethods.{CountedMethods}

-- what `==` answers
abbrev pub same_place : Place → Place → Bool
same_place = eq-value.it

abbrev pub place : ℕ → Name → ℕ → Place
place c n arity = record { owner = c; name = n.0; arity = arity }

-- the list that is kept for a type, a name and a number of parameters
abbrev pub kept_at : CountedMethods → ℕ → Name → ℕ → Option (List ℕ)
kept_at t c n arity = option_and_then (slice_get t.lists) (get same_place t.places (place c n arity))

-- the numbers are those of the members of c that count and have this name and number of parameters, ascending
abbrev pub AreCountedNamed : World → ℕ → Name → ℕ → List ℕ → Type 0
AreCountedNamed w c n arity ms = ((m : ℕ) → Contains ms m ↔ IsCountedNamed w c n arity m) × IsStrictlyIncreasing ms

-- Of the members of c with this name and number of parameters the list has those of which P holds; where there is no list, P holds of all.
abbrev pub AreKept : World → ℕ → Name → ℕ → (ℕ → Type 0) → Option (List ℕ) → Type 0
AreKept w c n arity P None = (m : ℕ) → IsMethodNamed w c n arity m → P m
AreKept w c n arity P (Some ms) = ((m : ℕ) → Contains ms m ↔ (P m × IsMethodNamed w c n arity m)) × IsStrictlyIncreasing ms

-- the member m of c counts
abbrev pub IsCounted : World → ℕ → ℕ → Type 0
IsCounted w c m = (ms : List ℕ) × HasCounted w c ms × Contains ms m

-- what is kept for each type is right
abbrev pub HoldsCounted : World → CountedMethods → Type 0
HoldsCounted w t = (c : ℕ) → IsKnown w c → (n : Name) (arity : ℕ) → AreKept w c n arity (IsCounted w c) (kept_at t c n arity)
