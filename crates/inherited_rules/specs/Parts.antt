-- What the parts of the search look for.
use Rattle.std.specs.Prelude.{◌≡◌, ◌↔◌, ◌≤◌, ℕ, Bool, true, List, Option, Some, None, slice_get}
use Rattle.std.specs.List.{Contains}
use Rattle.class_world.specs.declared.world.World.{World}
use Rattle.class_world.specs.declared.world.TypeInfo.{TypeInfo}
use Rattle.class_world.specs.declared.world.JavaType.{JavaType}
use Rattle.class_world.specs.Sound.{IsOfWorld}
use Rattle.class_world.specs.Signatures.{HaveOneSignatureIn}
use Rattle.class_world.specs.Inheritance.{IsMemberMethod}
use Rattle.class_world.specs.Overriding.{Overriding}
use Rattle.class_world.specs.Counted.{IsOfClass}
use Rattle.rule_order.specs.First.{Breaches}
use Rattle.seen_methods.specs.Seen.{HasResult}
use Rattle.numbered_methods.specs.declared.NumberedMethods.{NumberedMethods}
use Rattle.numbered_methods.specs.Alike.{IsNumbered}
use Rattle.inherited_rules.specs.Rules.{Breaks, FitsResult, IsAbstractMethod}

-- what the type c breaks, at its node
abbrev pub BreachesOf : World → ℕ → Breaches
BreachesOf w c b = (info : TypeInfo) × (slice_get w.types c ≡ Some info) × (info.node ≡ Some b.node) × Breaks w c b.rule

-- the lowest number of a rule that c breaks, or it breaks none
abbrev pub IsLowest : World → ℕ → Option ℕ → Type 0
IsLowest w c None = (rule : ℕ) → Breaks w c rule → ⊥
IsLowest w c (Some lowest) = Breaks w c lowest × ((rule : ℕ) → Breaks w c rule → lowest ≤ rule)

-- the member k of c has a body and overrides m
abbrev pub IsBodyOf : World → ℕ → ℕ → ℕ → Type 0
IsBodyOf w c m k = IsMemberMethod w c k × (IsAbstractMethod w k → ⊥) × Overriding w k m

-- the table has the members of c that have bodies, as c sees them
abbrev pub HasBodies : World → ℕ → NumberedMethods → Type 0
HasBodies w c t = (ks : List ℕ) × ((k : ℕ) → Contains ks k ↔ (IsMemberMethod w c k × (IsAbstractMethod w k → ⊥))) × IsNumbered w c ks t

-- an abstract method for which c has no body
abbrev pub IsUnmet : World → ℕ → ℕ → Type 0
IsUnmet w c m = IsAbstractMethod w m × ((k : ℕ) → IsBodyOf w c m k → ⊥)

-- neither result fits the other
abbrev pub IsUnlike : World → Option JavaType → Option JavaType → Type 0
IsUnlike w r q = (FitsResult w r q → ⊥) × (FitsResult w q r → ⊥)

-- the results of two methods, as the type c sees them, are unlike
abbrev pub AreUnlike : World → ℕ → ℕ → ℕ → Type 0
AreUnlike w c m k = (r : Option JavaType) × (q : Option JavaType) × HasResult w c m r × HasResult w c k q × IsUnlike w r q

-- one of these methods overrides both
abbrev pub AreOverriddenBy : World → (ℕ → Type 0) → ℕ → ℕ → Type 0
AreOverriddenBy w Top m k = (t : ℕ) × Top t × Overriding w t m × Overriding w t k

-- the results of two methods are unlike, and none of these methods overrides both
abbrev pub AreUnresolved : World → ℕ → (ℕ → Type 0) → ℕ → ℕ → Type 0
AreUnresolved w c Top m k = AreUnlike w c m k × (AreOverriddenBy w Top m k → ⊥)

-- one of the list that a class declares
abbrev pub IsTop : World → List ℕ → ℕ → Type 0
IsTop w ms t = Contains ms t × IsOfClass w t

-- m and one of the list are unlike and not overridden so
abbrev pub IsUnresolvedWith : World → ℕ → (ℕ → Type 0) → List ℕ → ℕ → Type 0
IsUnresolvedWith w c Top ms m = (k : ℕ) × Contains ms k × AreUnresolved w c Top m k

-- two of the list are unlike and not overridden so
abbrev pub HasUnresolved : World → ℕ → (ℕ → Type 0) → List ℕ → Type 0
HasUnresolved w c Top ms = (m : ℕ) × (k : ℕ) × Contains ms m × Contains ms k × AreUnresolved w c Top m k

-- two of the methods have one signature in c and unlike results, and none of them that a class declares overrides both
abbrev pub HasUnresolvedPair : World → ℕ → List ℕ → Type 0
HasUnresolvedPair w c ms = (m : ℕ) × (k : ℕ) × Contains ms m × Contains ms k × HaveOneSignatureIn w c m k × AreUnresolved w c (IsTop w ms) m k

-- the table has these members of c, as c sees them
abbrev pub HasMembers : World → ℕ → List ℕ → NumberedMethods → Type 0
HasMembers w c ms t = IsNumbered w c ms t × ((k : ℕ) → Contains ms k → IsMemberMethod w c k)

-- m has no such pair with a method of its signature
abbrev pub IsJudged : World → ℕ → List ℕ → ℕ → Type 0
IsJudged w c ms m = (k : ℕ) → Contains ms k → HaveOneSignatureIn w c m k → AreUnresolved w c (IsTop w ms) m k → ⊥

-- so for each method of a set
abbrev pub AreJudged : World → ℕ → List ℕ → (ℕ → Bool) → Type 0
AreJudged w c ms has = (m : ℕ) → has m ≡ true → IsJudged w c ms m

-- a result, if it is one, is a type of the world
abbrev pub IsResult : World → Option JavaType → Type 0
IsResult w None = Unit {0}
IsResult w (Some t) = IsOfWorld w t
