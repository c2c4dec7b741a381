-- Words of the searches for the first of these rules that is broken.
use Rattle.std.specs.Prelude.{◌≡◌, ℕ, ◌≤◌, ◌⊎◌, ◌↔◌, Bool, true, List, [], Option, Some, None, slice_get, length, min, ◌+◌, ◌==◌, if◌then◌else◌, sum_by}
use Rattle.std.specs.List.{Contains}
use Rattle.rule_order.specs.declared.Breach.{Breach}
use Rattle.rule_order.specs.First.{Breaches}
use Rattle.class_world.specs.declared.world.World.{World}
use Rattle.class_world.specs.declared.world.TypeInfo.{TypeInfo}
use Rattle.class_world.specs.declared.world.MethodInfo.{MethodInfo}
use Rattle.class_world.specs.declared.world.JavaType.{JavaType}
use Rattle.class_world.specs.Subtypes.{Subtype}
use Rattle.class_world.specs.declared.world.JavaType.TheVariants as ty
use Rattle.class_world.specs.Sound.{IsKnown, IsOfWorld, IsSet}
use Rattle.class_world.specs.Signatures.{IsMethod, AgreeBelow}
use Rattle.class_world.specs.Inheritance.{DeclaresMethod}
use Rattle.class_world.specs.Overriding.{Replaces, MeetIn}
use Rattle.override_rules.specs.Rules.{access, AreOfOneKind, Breaks, IsUncheckedException, TakesPlace}

-- the lowest number of a set, or the set is empty
abbrev pub IsLowest : (ℕ → Type 0) → Option ℕ → Type 0
IsLowest P None = (r : ℕ) → P r → ⊥
IsLowest P (Some r) = P r × ((q : ℕ) → P q → r ≤ q)

-- the lower of two, if there is one
abbrev pub lower_of : Option ℕ → Option ℕ → Option ℕ
lower_of None b = b
lower_of (Some x) None = Some x
lower_of (Some x) (Some y) = Some (min x y)

abbrev pub breach_of : Option ℕ → Option ℕ → Option Breach
breach_of None rule = None
breach_of (Some n) None = None
breach_of (Some n) (Some r) = Some (record { node = n; rule = r })

-- ---- one method over another

abbrev pub HasAccess : World → ℕ → ℕ → Type 0
HasAccess w m level =
    (info : MethodInfo) × IsMethod w m info × (owner : TypeInfo) × (slice_get w.types info.owner ≡ Some owner) × (level ≡ access owner.interface info.mods)

-- the type that declares the method is one of the world
abbrev pub HasKnownOwner : World → ℕ → Type 0
HasKnownOwner w m = (info : MethodInfo) → IsMethod w m info → IsKnown w info.owner

abbrev pub AreOfWorld : World → List JavaType → Type 0
AreOfWorld w ts = (t : JavaType) → Contains ts t → IsOfWorld w t

abbrev pub ResultIsOfWorld : World → Option JavaType → Type 0
ResultIsOfWorld w r = (t : JavaType) → r ≡ Some t → IsOfWorld w t

-- ---- throws clauses

abbrev pub IsBelowOne : World → JavaType → List JavaType → Type 0
IsBelowOne w e upper = (f : JavaType) × Contains upper f × Subtype w e f

-- Each of the types is a class without arguments, and the words have the bits of these classes.
pub record AreClassBits (types : List JavaType) (words : List ℕ) : Type 0 where
  pub classes : (t : JavaType) → Contains types t → (g : ℕ) × (t ≡ ty.Class g [])
  pub bits : (g : ℕ) → IsSet words g ↔ Contains types (ty.Class g [])

-- the words have the bits of the classes whose types without arguments are above the type
abbrev pub AreAbove : World → JavaType → List ℕ → Type 0
AreAbove w t words = (g : ℕ) → IsSet words g ↔ Subtype w t (ty.Class g [])

-- a bit is set in both
abbrev pub HaveCommonBit : List ℕ → List ℕ → Type 0
HaveCommonBit a b = (g : ℕ) × IsSet a g × IsSet b g

-- one of the types is checked and below none of the upper ones
abbrev pub NamesMore : World → List JavaType → List JavaType → Type 0
NamesMore w lower upper = (e : JavaType) × Contains lower e × (IsUncheckedException w e → ⊥) × ((f : JavaType) → Contains upper f → Subtype w e f → ⊥)

-- ---- a method over all whose place it takes

-- m breaks the rule of this number over one whose place it takes
abbrev pub BreaksAbove : World → ℕ → ℕ → Type 0
BreaksAbove w m r = (c : ℕ) × (k : ℕ) × DeclaresMethod w c m × TakesPlace w m k × Breaks w c m k r

-- a method whose flag is set breaks nothing
abbrev pub AreClean : World → List Bool → Type 0
AreClean w clean = (t : ℕ) → slice_get clean t ≡ Some true → (r : ℕ) → BreaksAbove w t r → ⊥

abbrev pub IsReplacedBy : World → ℕ → ℕ → Type 0
IsReplacedBy w m k = (c : ℕ) × Replaces w c m k

-- what is left to be judged behind t: nothing where its flag is set, else all that it replaces
abbrev pub IsBehind : World → List Bool → ℕ → List ℕ → Type 0
IsBehind w clean t ks = ((k : ℕ) → Contains ks k → IsReplacedBy w t k) × ((slice_get clean t ≡ Some true) ⊎ ((k : ℕ) → IsReplacedBy w t k → Contains ks k))

abbrev pub IsMarked : List ℕ → ℕ → ℕ → Type 0
IsMarked marks stamp k = slice_get marks k ≡ Some stamp

-- how many have another mark
abbrev pub unmarked : ℕ → List ℕ → ℕ
unmarked stamp marks = sum_by (λ x. if x == stamp then 0 else 1) marks

-- The methods of a set are marked, and those that were not before are on the stack now.
pub record Pushes (P : ℕ → Type 0) (stamp : ℕ) (old new stack more : List ℕ) : Type 0 where
  pub all : (k : ℕ) → P k → IsMarked new stamp k
  pub only : (k : ℕ) → IsMarked new stamp k → IsMarked old stamp k ⊎ P k
  pub kept : (k : ℕ) → IsMarked old stamp k → IsMarked new stamp k
  pub others : (s k : ℕ) → IsMarked new s k → (s ≡ stamp) ⊎ IsMarked old s k
  pub stacked : (k : ℕ) → IsMarked new stamp k → IsMarked old stamp k ⊎ Contains more k
  pub still : (k : ℕ) → Contains stack k → Contains more k
  pub marked : (k : ℕ) → Contains more k → Contains stack k ⊎ IsMarked new stamp k
  pub room : unmarked stamp new + length more ≡ unmarked stamp old + length stack

-- ---- two methods that a type has from both sides

abbrev pub BreaksPair : World → ℕ → ℕ → ℕ → ℕ → Type 0
BreaksPair w c m k r = (AgreeBelow w m k ⊎ (AreOfOneKind w m k → ⊥)) × Breaks w c m k r

abbrev pub BreaksMet : World → ℕ → ℕ → Type 0
BreaksMet w c r = (m : ℕ) × (k : ℕ) × MeetIn w c m k × BreaksPair w c m k r

-- ---- at nodes

abbrev pub MethodBreaches : World → ℕ → Breaches
MethodBreaches w m b = BreaksAbove w m b.rule × ((info : MethodInfo) × (slice_get w.methods m ≡ Some info) × (info.node ≡ Some b.node))

abbrev pub DeclaredBreaches : World → Breaches
DeclaredBreaches w b = (m : ℕ) × MethodBreaches w m b

abbrev pub TypeBreaches : World → ℕ → Breaches
TypeBreaches w c b = BreaksMet w c b.rule × ((info : TypeInfo) × (slice_get w.types c ≡ Some info) × (info.node ≡ Some b.node))

abbrev pub InheritedBreaches : World → Breaches
InheritedBreaches w b = (c : ℕ) × TypeBreaches w c b
