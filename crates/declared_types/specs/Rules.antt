-- The rules on the written types of declarations: DR1, that each names a type, and DR2, that supertypes are fit (JLS 8.1.4, 8.1.5 and 9.1.3).
use Rattle.std.specs.Prelude.{◌≡◌, ℕ, ◌<◌, ◌⊎◌, Bool, not, ◌&&◌, nat_lt, List, [], ◌∷◌, ◌++◌, map, flat_map, length, Some, Contains, slice_get, option_to_list}
use Rattle.java_tree.specs.declared.tree.Mod.TheVariants as mods
use Rattle.java_tree.specs.Plain as t
use Rattle.java_tree.specs.Plain.{TypeExpr, TypeExprs, Member, TypeDecl}
use Rattle.class_world.specs.declared.world.TypeInfo.{TypeInfo}
use Rattle.class_world.specs.declared.world.JavaType.{JavaType}
use Rattle.rule_order.specs.First.{Breaches, Either}
use Rattle.rule_order.specs.Noted.{At, SomeOf}
use Rattle.type_names.specs.declared.known.JavaNames.{JavaNames}
use Rattle.type_names.specs.Known.{File}
use Rattle.written_types.specs.Places.{Place}
use Rattle.written_types.specs.Types.{type_of}
use Rattle.written_types.specs.Breaks.{node_of, head_of, args_of, NamesVariable, NamesType, IllNamed}
use Rattle.type_headers.specs.Declared.{Declaration, declarations, place_of, written_supers}

-- the written types of a member outside bodies
abbrev pub member_types : Member → List TypeExpr
member_types (t.AField f) = f.ty ∷ []
member_types (t.AMethod m) = option_to_list m.result ++ (map (λ p. p.ty) m.params ++ m.throws)

-- those of a declaration: its supertypes, and the types of fields, results, parameters and throws clauses
abbrev pub declared_types : TypeDecl → List TypeExpr
declared_types d = written_supers d ++ flat_map member_types d.members

-- DR1 at one of them or within it
abbrev pub NamesNoType : Place → TypeDecl → Breaches
NamesNoType p d = SomeOf (declared_types d) (IllNamed p)

-- whether the k-th written supertype has to be a class: it is what a class extends
abbrev pub wants_class : TypeDecl → (k : ℕ) → Bool
wants_class d k = not d.interface && nat_lt k (length d.extends)

-- The type of number c with these arguments is an interface where a class is wanted or a class where an interface is, a final class, or raw.
abbrev pub IsUnfit : List TypeInfo → (wants : Bool) → TypeExprs → (c : ℕ) → Type 0
IsUnfit types wants xs c =
    (info : TypeInfo) × (slice_get types c ≡ Some info) × ((info.interface ≡ wants) ⊎ Contains info.mods mods.Final ⊎ ((0 < info.params) × (xs ≡ t.NoTypes)))

-- the k-th of the types says the type that an earlier one says
abbrev pub StandsTwice : Place → List TypeExpr → (k : ℕ) → Type 0
StandsTwice p xs k =
    (i : ℕ) × (i < k) × (x y : TypeExpr) × (slice_get xs i ≡ Some x) × (slice_get xs k ≡ Some y) × (ty : JavaType) × (type_of p x ≡ Some ty) × (type_of p y ≡ Some ty)

-- what is wrong with the k-th written supertype: it is a type parameter, unfit, or there already
abbrev pub IsWrongSuper : List TypeInfo → Place → TypeDecl → (k : ℕ) → TypeExpr → Type 0
IsWrongSuper types p d k x =
    NamesVariable p (head_of x)
    ⊎ ((c : ℕ) × NamesType p (head_of x) c × IsUnfit types (wants_class d k) (args_of x) c)
    ⊎ StandsTwice p (written_supers d) k

-- DR2 at a written supertype
abbrev pub BreaksSuper : List TypeInfo → Place → TypeDecl → Breaches
BreaksSuper types p d b = (k : ℕ) × (x : TypeExpr) × (slice_get (written_supers d) k ≡ Some x) × At 2 (node_of x) (IsWrongSuper types p d k x) b

-- both, in a declaration of a program of these types
abbrev pub DeclarationBreaches : JavaNames → List File → List TypeInfo → Declaration → Breaches
DeclarationBreaches j fs types x = Either (NamesNoType (place_of j fs types x) x.decl) (BreaksSuper types (place_of j fs types x) x.decl)

-- and in all of them
abbrev pub DeclaredTypeBreaches : JavaNames → List File → List TypeInfo → Breaches
DeclaredTypeBreaches j fs types = SomeOf (declarations fs) (DeclarationBreaches j fs types)
