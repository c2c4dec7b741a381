-- What the parts of the search look for.
use Rattle.std.specs.Prelude.{◌≡◌, ◌≢◌, ℕ, ◌+◌, ◌<◌, ◌≤◌, ◌⊎◌, ◌↔◌, Bool, true, false, List, [], Some, Contains, map, slice_get, length}
use Rattle.java_tree.specs.Plain.{TypeExpr}
use Rattle.java_tree.specs.View.{decl_plain}
use Rattle.class_world.specs.declared.world.TypeInfo.{TypeInfo}
use Rattle.class_world.specs.declared.world.JavaType.{JavaType}
use Rattle.class_world.specs.declared.world.JavaType.TheVariants as ty
use Rattle.rule_order.specs.First.{Breaches, Either}
use Rattle.rule_order.specs.Noted.{At, SomeOf}
use Rattle.type_names.specs.declared.known.JavaNames.{JavaNames}
use Rattle.type_names.specs.Known.{File}
use Rattle.type_reach.specs.Sources.{HasTarget}
use Rattle.written_types.specs.Places.{Place, IsPlace}
use Rattle.written_types.specs.Types.{type_of}
use Rattle.written_types.specs.Breaks.{head_of, NamesType}
use Rattle.type_headers.specs.Declared.{Declaration, declarations, place_of}
use Rattle.super_rules.specs.declared.entries.Entry.{Entry}
use Rattle.super_rules.specs.declared.rows.Edges.{Edges}
use Rattle.super_rules.specs.declared.rows.Edges.TheVariants as edges
use Rattle.super_rules.specs.Rules.{IsBuiltInSuper, IsSuperOf, IsAbove, SaysSuperclass, IsThrowable, ThrowsBreaches}

-- ---- declarations

-- the declarations of the i-th file
abbrev pub declared_in : ℕ → File → List Declaration
declared_in i f = map (λ d. record { file = f; number = i; decl = d }) f.unit.types

-- these files stand in the list from number i on
abbrev pub StandAt : List File → ℕ → List File → Type 0
StandAt fs i gs = (k : ℕ) (g : File) → slice_get gs k ≡ Some g → slice_get fs (i + k) ≡ Some g

-- the code's entry of a declaration
pub record IsEntry (j : JavaNames) (fs : List File) (types : List TypeInfo) (e : Entry) (x : Declaration) : Type 0 where
  pub place : IsPlace e.scope (place_of j fs types x)
  pub types_are : e.scope.types.now ≡ types
  pub decl : decl_plain e.decl.now ≡ x.decl
  pub user : e.user ≡ x.file.user

-- the entries of these declarations in order
pub record AreEntries (j : JavaNames) (fs : List File) (types : List TypeInfo) (es : List Entry) (xs : List Declaration) : Type 0 where
  pub size : length es ≡ length xs
  pub each : (k : ℕ) (e : Entry) → slice_get es k ≡ Some e → (x : Declaration) × (slice_get xs k ≡ Some x) × IsEntry j fs types e x

-- those of all declarations, each of which is known by its number
pub record HasEntries (j : JavaNames) (fs : List File) (types : List TypeInfo) (es : List Entry) : Type 0 where
  pub entries : AreEntries j fs types es (declarations fs)
  pub few : 19 + length (declarations fs) ≤ length types

-- ---- graphs

-- the type of a written supertype of these is named
abbrev pub NamesOneOf : Place → List TypeExpr → ℕ → Type 0
NamesOneOf p xs g = (s : TypeExpr) × Contains xs s × NamesType p (head_of s) g

-- a class, and no interface, that a written type says
abbrev pub SaysClass : Place → List TypeInfo → TypeExpr → ℕ → Type 0
SaysClass p types s g = (args : List JavaType) × (type_of p s ≡ Some (ty.Class g args)) × (info : TypeInfo) × (slice_get types g ≡ Some info) × (info.interface ≡ false)

abbrev pub SaysOneOf : Place → List TypeInfo → List TypeExpr → ℕ → Type 0
SaysOneOf p types xs g = (s : TypeExpr) × Contains xs s × SaysClass p types s g

-- the numbers are those that the fact holds of
abbrev pub IsRow : List ℕ → (ℕ → Type 0) → Type 0
IsRow row P = (g : ℕ) → Contains row g ↔ P g

abbrev pub IsLibrary : List TypeInfo → ℕ → Type 0
IsLibrary types c = (info : TypeInfo) × (slice_get types c ≡ Some info) × (info.user ≡ false)

-- where an edge goes to
abbrev pub IsLed : JavaNames → List File → List TypeInfo → (classes : Bool) → ℕ → ℕ → Type 0
IsLed j fs types false c g = IsSuperOf j fs types c g
IsLed j fs types true c g = IsBuiltInSuper types c g ⊎ SaysSuperclass j fs types c g

-- and from where
abbrev pub IsDrawn : JavaNames → List File → List TypeInfo → Edges → ℕ → ℕ → Type 0
IsDrawn j fs types edges.All c g = IsLed j fs types false c g
IsDrawn j fs types edges.FromLibraries c g = IsLibrary types c × IsLed j fs types false c g
IsDrawn j fs types edges.Superclasses c g = IsLed j fs types true c g

-- a graph of the types with exactly these edges
pub record Draws (R : ℕ → ℕ → Type 0) (types : List TypeInfo) (graph : List (List ℕ)) : Type 0 where
  pub size : length graph ≡ length types
  pub edge : (c g : ℕ) → HasTarget graph c g ↔ R c g

-- the flags that are set are those of which the fact holds
abbrev pub AreFlags : List Bool → (ℕ → Type 0) → Type 0
AreFlags flags P = (c : ℕ) → (slice_get flags c ≡ Some true) ↔ P c

-- ---- rules

-- DR2, DR3 and DR12 at the declaration of the type of this number
abbrev pub TypeBreaches : JavaNames → List File → List TypeInfo → ℕ → Declaration → Breaches
TypeBreaches j fs types c x =
    Either (SomeOf x.decl.members (ThrowsBreaches j fs types x))
    (Either (At 3 x.decl.node (IsAbove j fs types c c)) (At 12 x.decl.node ((x.decl.params ≢ []) × IsThrowable j fs types c)))

-- what the first declarations break, each known by its number
abbrev pub Below : {A : Type 0} → ℕ → List A → (ℕ → A → Breaches) → Breaches
Below {A} n xs F b = (k : ℕ) × (x : A) × (k < n) × (slice_get xs k ≡ Some x) × F k x b
