-- The types to which a place may go.
use Rattle.std.specs.Prelude.{◌≡◌, ◌⊎◌, ℕ, zero, suc, Bool, true, false, ◌&&◌, not, List, [], ◌∷◌, ◌++◌, length, map, Option, Some, None, slice_get}
use Rattle.std.specs.String.{string_bytes}
use Rattle.java_tree.specs.declared.tree.Name.{Name}
use Rattle.java_tree.specs.declared.tree.SourceUnit.{SourceUnit}
use Rattle.class_world.specs.declared.world.World.{World}
use Rattle.class_world.specs.declared.world.TypeInfo.{TypeInfo}
use Rattle.type_facts.specs.Facts.{Facts}
use Rattle.type_places.specs.declared.changes.Changes.{Changes}
use Rattle.type_places.specs.declared.places.TypePlace.{TypePlace}
use Rattle.type_constraints.specs.declared.unmet.Unmet.{Unmet}
use Rattle.generalize_declared.specs.declared.asked.CheckedSource.{CheckedSource}
use Rattle.generalize_declared.specs.declared.asked.Wish.{Wish}
use Rattle.generalize_declared.specs.declared.command.Against.{Against}
use Rattle.generalize_declared.specs.declared.command.Against.TheVariants as against
use Rattle.generalize_declared.specs.declared.allowed.TypesAnswer.{TypesAnswer}
use Rattle.generalize_declared.specs.declared.allowed.TypesAnswer.TheVariants as answer
use Rattle.generalize_declared.specs.Asked.{HasPlace, is_above, is_open}
use Rattle.generalize_declared.specs.Plans.{HasNoPlace, IsTried, IsUnclean, text_of}

-- the package of a file
abbrev pub home_of : Option SourceUnit → List Name
home_of None = []
home_of (Some u) = u.«package»

-- an interface, or a class
abbrev pub is_of_kind : (interface : Bool) → TypeInfo → Bool
is_of_kind true i = i.interface
is_of_kind false i = not i.interface

-- a type of the kind that may be named there and is above the place's own
abbrev pub is_candidate : Facts → (home : List Name) → TypePlace → (interface : Bool) → (k : ℕ) → Option TypeInfo → Bool
is_candidate f home p kind k None = false
is_candidate f home p kind k (Some i) = is_of_kind kind i && (is_open home i && is_above f k p.old)

module _ (f : Facts) (s : CheckedSource) (home : List Name) (p : TypePlace) (kind : Bool) where
  -- A place may go to a candidate where each constraint of the change is met, and to no other type.
  abbrev pub Goes : (k : ℕ) → Bool → Type 0
  Goes k true = (is_candidate f home p kind k (slice_get f.world.types k) ≡ true) × ((c : Changes) × IsTried f s p k c None)
  Goes k false = (is_candidate f home p kind k (slice_get f.world.types k) ≡ false) ⊎ ((c : Changes) × (u : Unmet) × IsTried f s p k c (Some u))

  -- of the first types, so many, those to which the place may go, in their order
  abbrev pub AreListed : ℕ → List ℕ → Type 0
  AreListed zero ks = ks ≡ []
  AreListed (suc n) ks = ((js : List ℕ) × AreListed n js × Goes n true × (ks ≡ js ++ (n ∷ []))) ⊎ (AreListed n ks × Goes n false)

abbrev pub type_word : (names : List (List ℕ)) → Option TypeInfo → List ℕ
type_word names None = []
type_word names (Some i) = text_of names i.name

abbrev pub word_of : (names : List (List ℕ)) → World → ℕ → List ℕ
word_of names w k = type_word names (slice_get w.types k)

-- the names of the classes and then of the interfaces to which a place may go, each in the order of the declarations
pub record AreAllowed (f : Facts) (s : CheckedSource) (x : Wish) (p : TypePlace) (words : List (List ℕ)) : Type 0 where
  pub classes : List ℕ
  pub interfaces : List ℕ
  pub are_classes : AreListed f s (home_of (slice_get s.units.now x.file)) p false (length f.world.types) classes
  pub are_interfaces : AreListed f s (home_of (slice_get s.units.now x.file)) p true (length f.world.types) interfaces
  pub are : words ≡ map (word_of s.names.now f.world) (classes ++ interfaces)

-- what stands against any change of a place
abbrev pub StandsFirst : Facts → CheckedSource → Wish → Against → Type 0
StandsFirst f s x (against.Unchecked n) = IsUnclean s n
StandsFirst f s x against.NoPlace = HasNoPlace f.world s x
StandsFirst f s x _ = ⊥

-- no unchecked operation, a place, and the names of the types to which it may go
abbrev pub HasTypes : Facts → CheckedSource → Wish → (words : List (List ℕ)) → Type 0
HasTypes f s x words = (p : TypePlace) × (s.operations.now ≡ []) × HasPlace f.world s x p × AreAllowed f s x p words

abbrev pub Answers : Facts → CheckedSource → Wish → TypesAnswer → Type 0
Answers f s x (answer.Against a) = StandsFirst f s x a
Answers f s x (answer.Types words) = HasTypes f s x (map string_bytes words)
