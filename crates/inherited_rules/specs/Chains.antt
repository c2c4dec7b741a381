-- Results that are kept in the order of their types.
use Rattle.std.specs.Prelude.{◌≡◌, ◌↔◌, ◌⊎◌, ◌<◌, ◌≤◌, ℕ, Bool, List, [], Option, Some, None, IsTrue, slice_get, length}
use Rattle.std.specs.List.{Contains}
use Rattle.class_world.specs.declared.world.World.{World}
use Rattle.class_world.specs.declared.world.JavaType.{JavaType}
use Rattle.class_world.specs.declared.world.JavaType.TheVariants as ty
use Rattle.class_world.specs.Types.{IsReference}
use Rattle.class_world.specs.Subtypes.{Subtype}
use Rattle.inherited_rules.specs.declared.chain.Place.{Place}
use Rattle.inherited_rules.specs.declared.chain.Place.TheVariants.{There, At, Nowhere}
use Rattle.inherited_rules.specs.declared.chain.Results.{Results}
use Rattle.inherited_rules.specs.declared.chain.Side.{Side}
use Rattle.inherited_rules.specs.declared.chain.Side.TheVariants.{Same, Below, Above, Apart}
use Rattle.inherited_rules.specs.Parts.{IsResult, IsUnlike}

-- the same, or a subtype
abbrev pub IsBelow : World → Option JavaType → Option JavaType → Type 0
IsBelow w None None = Unit {0}
IsBelow w (Some s) (Some t) = (s ≡ t) ⊎ (IsReference s × IsReference t × Subtype w s t)
IsBelow w _ _ = ⊥

-- where r stands beside q
abbrev pub IsSide : World → Option JavaType → Option JavaType → Side → Type 0
IsSide w r q Same = r ≡ q
IsSide w r q Below = IsBelow w r q
IsSide w r q Above = IsBelow w q r
IsSide w r q Apart = (IsBelow w r q → ⊥) × (IsBelow w q r → ⊥)

-- each is below those after it
abbrev pub IsChain : World → List (Option JavaType) → Type 0
IsChain w xs = (i j : ℕ) (r q : Option JavaType) → i < j → slice_get xs i ≡ Some r → slice_get xs j ≡ Some q → IsBelow w r q

abbrev pub AreResults : World → List (Option JavaType) → Type 0
AreResults w xs = (r : Option JavaType) → Contains xs r → IsResult w r

-- a class type without arguments: a raw type, or of a class without parameters
abbrev pub IsBare : Option JavaType → Type 0
IsBare r = (c : ℕ) × (r ≡ Some (ty.Class c []))

-- any other result
abbrev pub IsOther : Option JavaType → Type 0
IsOther r = IsBare r → ⊥

-- those before the place low have one property, and those from high on another
pub record IsCut (First Second : Option JavaType → Type 0) (xs : List (Option JavaType)) (low high : ℕ) : Type 0 where
  pub ascending : low ≤ high
  pub within : high ≤ length xs
  pub before : (k : ℕ) (q : Option JavaType) → k < low → slice_get xs k ≡ Some q → First q
  pub after : (k : ℕ) (q : Option JavaType) → high ≤ k → slice_get xs k ≡ Some q → Second q

-- those before the place i are below r, and r is below those from i on
abbrev pub IsBetween : World → List (Option JavaType) → Option JavaType → ℕ → Type 0
IsBetween w xs r i = IsCut (λ q. IsBelow w q r) (IsBelow w r) xs i i

-- those before the place i are below r, and those from i on are not
abbrev pub IsFirstNotBelow : World → List (Option JavaType) → Option JavaType → ℕ → Type 0
IsFirstNotBelow w xs r i = IsCut (λ q. IsBelow w q r) (λ q. IsBelow w q r → ⊥) xs i i

-- r is not below those before the place i, and below those from i on
abbrev pub IsFirstAbove : World → List (Option JavaType) → Option JavaType → ℕ → Type 0
IsFirstAbove w xs r i = IsCut (λ q. IsBelow w r q → ⊥) (IsBelow w r) xs i i

-- one of the list is neither below r nor above it
abbrev pub HasApart : World → List (Option JavaType) → Option JavaType → Type 0
HasApart w xs r = (q : Option JavaType) × Contains xs q × IsSide w r q Apart

-- the chain has r, or r can be put at a place of it, or it has no place
abbrev pub IsPlace : World → List (Option JavaType) → Option JavaType → Place → Type 0
IsPlace w xs r There = Contains xs r
IsPlace w xs r (At i) = IsBetween w xs r i
IsPlace w xs r Nowhere = HasApart w xs r

-- one of the chain is apart from r; or none is, and the new chain has r too
abbrev pub IsPut : World → List (Option JavaType) → List (Option JavaType) → Option JavaType → Bool → Type 0
IsPut w old new r apart = (IsTrue apart → HasApart w old r) × ((IsTrue apart → ⊥) → IsChain w new × ((q : Option JavaType) → Contains new q ↔ (Contains old q ⊎ (q ≡ r))))

-- a chain of results of one sort
pub record IsChainOf (w : World) (Sort : Option JavaType → Type 0) (xs : List (Option JavaType)) : Type 0 where
  pub chain : IsChain w xs
  pub types : AreResults w xs
  pub sort : (r : Option JavaType) → Contains xs r → Sort r

-- r is unlike one of the list
abbrev pub IsUnlikeOne : World → Option JavaType → List (Option JavaType) → Type 0
IsUnlikeOne w r xs = (q : Option JavaType) × Contains xs q × IsUnlike w r q

-- one of the first list is unlike one of the second
abbrev pub IsAnyUnlike : World → List (Option JavaType) → List (Option JavaType) → Type 0
IsAnyUnlike w xs ys = (r : Option JavaType) × Contains xs r × IsUnlikeOne w r ys

-- one of the results that are kept
abbrev pub IsAmong : Results → Option JavaType → Type 0
IsAmong t r = Contains t.bare.items r ⊎ Contains t.others.items r

-- the results of each sort are a chain
pub record AreKept (w : World) (t : Results) : Type 0 where
  pub bare : IsChainOf w IsBare t.bare.items
  pub others : IsChainOf w IsOther t.others.items

-- two of the results are unlike
abbrev pub HasUnlike : World → Results → Type 0
HasUnlike w t = (r : Option JavaType) × (q : Option JavaType) × IsAmong t r × IsAmong t q × IsUnlike w r q

-- one of the results is unlike r; or r is kept with them
abbrev pub IsAdded : World → Results → Results → Option JavaType → Bool → Type 0
IsAdded w old new r unlike =
    (IsTrue unlike → (q : Option JavaType) × IsAmong old q × IsUnlike w r q)
    × ((IsTrue unlike → ⊥) → AreKept w new × ((q : Option JavaType) → IsAmong new q ↔ (IsAmong old q ⊎ (q ≡ r))))
