-- What the parts of the search look for.
use Rattle.std.specs.Prelude.{◌≡◌, ℕ, ◌+◌, ◌⊎◌, Bool, true, false, ◌&&◌, ◌||◌, nat_lt, List, ◌++◌, map, take, Option, Some, None, Contains, slice_get}
use Rattle.std.specs.Bool.{beq}
use Rattle.std.specs.List.{list_any}
use Rattle.java_tree.specs.declared.tree.Mod.{Mod}
use Rattle.java_tree.specs.declared.tree.Mod.TheVariants as mods
use Rattle.java_tree.specs.Plain as t
use Rattle.java_tree.specs.Plain.{TypeExpr, TypeExprs, TypeDecl}
use Rattle.class_world.specs.declared.world.TypeInfo.{TypeInfo}
use Rattle.class_world.specs.declared.world.JavaType.{JavaType}
use Rattle.rule_order.specs.First.{Breaches}
use Rattle.rule_order.specs.Noted.{At}
use Rattle.type_names.specs.Known.{File}
use Rattle.written_types.specs.Places.{Place}
use Rattle.written_types.specs.Types.{type_of}
use Rattle.written_types.specs.declared.scope.Named.{Named}
use Rattle.written_types.specs.declared.scope.Named.TheVariants as named
use Rattle.written_types.specs.Walk.{head_named}
use Rattle.written_types.specs.Breaks.{node_of, head_of, args_of, NamesVariable, NamesType}
use Rattle.type_headers.specs.Declared.{Declaration}
use Rattle.declared_types.specs.Rules.{IsUnfit}

-- ---- the kind of a supertype

abbrev pub is_bare : TypeExprs → Bool
is_bare t.NoTypes = true
is_bare (t.AndType x xs) = false

abbrev pub is_final_mod : Mod → Bool
is_final_mod mods.Final = true
is_final_mod _ = false

-- whether a type, if there is one, is unfit
abbrev pub unfit_info : (wants bare : Bool) → Option TypeInfo → Bool
unfit_info wants bare None = false
unfit_info wants bare (Some info) = beq info.interface wants || (list_any is_final_mod info.mods || (bare && nat_lt 0 info.params))

abbrev pub unfit_by : List TypeInfo → (wants bare : Bool) → Named → Bool
unfit_by types wants bare (named.Primitive q) = false
unfit_by types wants bare (named.Variable k) = true
unfit_by types wants bare (named.Type c) = unfit_info wants bare (slice_get types c)
unfit_by types wants bare named.Nothing = false

-- whether a supertype is a type parameter or an unfit type
abbrev pub is_unfit : List TypeInfo → Place → (wants : Bool) → TypeExpr → Bool
is_unfit types p wants (t.Written n h s xs d) = unfit_by types wants (is_bare xs) (head_named p h)

-- ---- supertypes of one clause, behind others

-- one of these says the type that x says
abbrev pub SaysAgain : Place → List TypeExpr → TypeExpr → Type 0
SaysAgain p before x = (y : TypeExpr) × Contains before y × (ty : JavaType) × (type_of p y ≡ Some ty) × (type_of p x ≡ Some ty)

abbrev pub IsWrong : List TypeInfo → Place → (wants : Bool) → List TypeExpr → TypeExpr → Type 0
IsWrong types p wants before x =
    (NamesVariable p (head_of x) ⊎ ((c : ℕ) × NamesType p (head_of x) c × IsUnfit types wants (args_of x) c)) ⊎ SaysAgain p before x

abbrev pub BreaksBehind : List TypeInfo → Place → (wants : Bool) → (before xs : List TypeExpr) → Breaches
BreaksBehind types p wants before xs b =
    (k : ℕ) × (x : TypeExpr) × (slice_get xs k ≡ Some x) × At 2 (node_of x) (IsWrong types p wants (before ++ take k xs) x) b

-- ---- files

-- the declarations of the i-th file
abbrev pub declares : ℕ → File → TypeDecl → Declaration
declares i f d = record { file = f; number = i; decl = d }

abbrev pub declared_in : ℕ → File → List Declaration
declared_in i f = map (declares i f) f.unit.types

-- these files stand in the list from number i on
abbrev pub StandAt : List File → ℕ → List File → Type 0
StandAt fs i gs = (k : ℕ) (g : File) → slice_get gs k ≡ Some g → slice_get fs (i + k) ≡ Some g
