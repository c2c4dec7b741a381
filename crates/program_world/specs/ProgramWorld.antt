-- The declared types, methods, constructors and fields of a program (JLS 8.1, 8.3, 8.4, 8.8, 9.1, 9.3 and 9.4).
use Rattle.std.specs.Prelude.{ℕ, ◌+◌, Bool, true, false, not, ◌&&◌, if◌then◌else◌, List, [], ◌∷◌, ◌++◌, map, flat_map, filter, length, Some, None, unwrap_or}
use Rattle.std.specs.List.{list_any, list_all, range_with_len}
use Rattle.std.specs.Option.{option_map}
use Rattle.java_tree.specs.declared.tree.Mod.{Mod}
use Rattle.java_tree.specs.declared.tree.Mod.TheVariants as mods
use Rattle.java_tree.specs.Plain as t
use Rattle.java_tree.specs.Plain.{TypeExpr, Var, Param, FieldDecl, MethodDecl, Member, TypeDecl}
use Rattle.class_world.specs.declared.world.World.{World}
use Rattle.class_world.specs.declared.world.TypeInfo.{TypeInfo}
use Rattle.class_world.specs.declared.world.MethodInfo.{MethodInfo}
use Rattle.class_world.specs.declared.world.FieldInfo.{FieldInfo}
use Rattle.class_world.specs.declared.world.JavaType.{JavaType, out-JavaType}
use Rattle.class_world.specs.declared.world.JavaType.TheVariants as ty
use Rattle.class_world.specs.declared.world.JavaType.TheOpen as form
use Rattle.class_world.specs.declared.world.JavaType.TheOpen.{JavaType-F}
use Rattle.class_world.specs.declared.world.JavaType.TheFolds.{fold-JavaType}
use Rattle.class_world.specs.Types.{object_type}
use Rattle.type_names.specs.declared.known.JavaNames.{JavaNames}
use Rattle.type_names.specs.Known.{File, is_public_mod}
use Rattle.written_types.specs.Places.{Place}
use Rattle.written_types.specs.Types.{type_of, arrays}
use Rattle.type_headers.specs.Declared.{Declaration, declarations, header, headers, place_of, written_supers}
use Rattle.built_in_types.specs.declared.types.BuiltIns.{BuiltIns}

-- The type that a written type says. One that says none stands as the null type, and DR1 is broken there.
abbrev pub read : Place → TypeExpr → JavaType
read p x = unwrap_or (type_of p x) ty.Null

-- ---- supertypes

-- What a type is as an argument: whether it is a reference type, and whether all arguments within it are (JLS 4.5.1; the grammar has no others).
pub record Argument : Type 0 where
  pub reference : Bool
  pub whole : Bool

abbrev pub passes : Argument → Bool
passes a = a.reference && a.whole

abbrev pub as_argument : JavaType-F Argument → Argument
as_argument (form.Prim p) = record { reference = false; whole = true }
as_argument form.Null = record { reference = false; whole = false }
as_argument (form.Class c xs) = record { reference = true; whole = list_all passes xs }
as_argument (form.Var k) = record { reference = true; whole = true }
as_argument (form.Array x) = record { reference = true; whole = x.whole }

abbrev pub argument : JavaType → Argument
argument = fold-JavaType Argument as_argument

abbrev pub class_form : JavaType-F JavaType → Bool
class_form (form.Class c xs) = true
class_form _ = false

abbrev pub is_class : JavaType → Bool
is_class x = class_form (out-JavaType x)

-- a class type, the arguments of which are reference types at each depth
abbrev pub is_super : JavaType → Bool
is_super x = is_class x && (argument x).whole

-- the superclass of a class that writes none (JLS 8.1.4)
abbrev pub implied_super : (interface : Bool) → (extends : List TypeExpr) → List JavaType
implied_super false [] = object_type ∷ []
implied_super false (x ∷ xs) = []
implied_super true xs = []

-- the supertypes of a declared type in order
abbrev pub supers_of : Place → TypeDecl → List JavaType
supers_of p d = implied_super d.interface d.extends ++ filter is_super (map (read p) (written_supers d))

-- ---- types of members

-- so many array levels around a type; the null type where an argument within it is no reference type (JLS 4.5.1; the grammar has no such type), or it is the null type
abbrev pub leveled : ℕ → JavaType → JavaType
leveled d t = if (argument t).whole then arrays d t else ty.Null

-- The type that a member declares: the one that a written type says, with so many array levels more. It is always a type of the world.
abbrev pub member_type : Place → ℕ → TypeExpr → JavaType
member_type p d x = leveled d (read p x)

-- ---- methods and constructors

-- Brackets behind a parameter's name are array levels of its type (JLS 8.4.1).
abbrev pub param_type : Place → Param → JavaType
param_type p q = member_type p q.dims q.ty

-- a method or constructor of the type of number c
abbrev pub method_info : Place → ℕ → MethodDecl → MethodInfo
method_info p c m = record {
  owner = c;
  name = m.name;
  constructor = m.constructor;
  mods = m.mods;
  params = map (param_type p) m.params;
  result = option_map (member_type p 0) m.result;
  throws = map (member_type p 0) m.throws;
  node = Some m.node.id;
}

abbrev pub own_methods : List Member → List MethodDecl
own_methods [] = []
own_methods (t.AField f ∷ ms) = own_methods ms
own_methods (t.AMethod m ∷ ms) = m ∷ own_methods ms

-- a class that declares no constructor
abbrev pub lacks_constructor : TypeDecl → Bool
lacks_constructor d = not d.interface && not (list_any (λ m. m.constructor) (own_methods d.members))

-- the constructor that it has then, with the class's access and without parameters and throws clause (JLS 8.8.9)
abbrev pub default_constructor : ℕ → TypeDecl → MethodInfo
default_constructor c d = record {
  owner = c;
  name = d.name;
  constructor = true;
  mods = if list_any is_public_mod d.mods then mods.Public ∷ [] else [];
  params = [];
  result = None;
  throws = [];
  node = None;
}

-- those that the type of number c declares, in order, and then its default constructor
abbrev pub methods_of : Place → ℕ → TypeDecl → List MethodInfo
methods_of p c d = map (method_info p c) (own_methods d.members) ++ (if lacks_constructor d then default_constructor c d ∷ [] else [])

-- ---- fields

-- A variable of a field declaration is a field (JLS 8.3). Brackets behind its name are array levels of its type.
abbrev pub field_info : Place → ℕ → List Mod → TypeExpr → Var → FieldInfo
field_info p c ms x v = record { owner = c; name = v.name; mods = ms; ty = member_type p v.dims x; node = Some v.node.id }

abbrev pub own_fields : List Member → List FieldDecl
own_fields [] = []
own_fields (t.AField f ∷ ms) = f ∷ own_fields ms
own_fields (t.AMethod m ∷ ms) = own_fields ms

-- those of the type of number c, in order
abbrev pub fields_of : Place → ℕ → TypeDecl → List FieldInfo
fields_of p c d = flat_map (λ f. map (field_info p c f.mods f.ty) f.vars) (own_fields d.members)

-- ---- types

-- the type of number c whose first method and field have the numbers m and n
abbrev pub type_info : Place → ℕ → ℕ → ℕ → Declaration → TypeInfo
type_info p c m n x = record (header x) {
  supers = supers_of p x.decl;
  methods = range_with_len m (length (methods_of p c x.decl));
  fields = range_with_len n (length (fields_of p c x.decl));
}

-- Of declarations, the first with the number c and first method and field m and n. Names in each mean what they mean at its place.

abbrev pub infos_from : (Declaration → Place) → ℕ → ℕ → ℕ → List Declaration → List TypeInfo
infos_from at c m n [] = []
infos_from at c m n (x ∷ xs) =
    type_info (at x) c m n x ∷ infos_from at (c + 1) (m + length (methods_of (at x) c x.decl)) (n + length (fields_of (at x) c x.decl)) xs

abbrev pub methods_from : (Declaration → Place) → ℕ → List Declaration → List MethodInfo
methods_from at c [] = []
methods_from at c (x ∷ xs) = methods_of (at x) c x.decl ++ methods_from at (c + 1) xs

abbrev pub fields_from : (Declaration → Place) → ℕ → List Declaration → List FieldInfo
fields_from at c [] = []
fields_from at c (x ∷ xs) = fields_of (at x) c x.decl ++ fields_from at (c + 1) xs

-- what names mean in a declaration of the program
abbrev pub place_among : BuiltIns → JavaNames → List File → Declaration → Place
place_among built j fs = place_of j fs (headers built.types fs)

-- The world of a program: the built-in types, of which there are 19, and then the declared ones. Its walk and its table of the order are filled later.
abbrev pub world_of : BuiltIns → JavaNames → List File → World
world_of built j fs = record {
  types = built.types ++ infos_from (place_among built j fs) 19 (length built.methods) (length built.fields) (declarations fs);
  methods = built.methods ++ methods_from (place_among built j fs) 19 (declarations fs);
  fields = built.fields ++ fields_from (place_among built j fs) 19 (declarations fs);
  walk = None;
  above = [];
}
