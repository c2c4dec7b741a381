-- What the code does step by step: each declaration adds a type with its members to a world.
use Rattle.std.specs.Prelude.{◌≡◌, ℕ, ◌+◌, Bool, false, List, [], ◌∷◌, ◌++◌, map, length, Some, slice_get}
use Rattle.java_tree.specs.Plain as t
use Rattle.java_tree.specs.Plain.{Member, TypeDecl}
use Rattle.class_world.specs.declared.world.World.{World}
use Rattle.class_world.specs.declared.world.MethodInfo.{MethodInfo}
use Rattle.class_world.specs.declared.world.FieldInfo.{FieldInfo}
use Rattle.type_names.specs.Known.{File}
use Rattle.written_types.specs.Places.{Place}
use Rattle.type_headers.specs.Declared.{Declaration}
use Rattle.program_world.specs.ProgramWorld.{method_info, methods_of, field_info, fields_of, type_info}

abbrev pub methods_in : Place → ℕ → Member → List MethodInfo
methods_in p c (t.AField f) = []
methods_in p c (t.AMethod m) = method_info p c m ∷ []

abbrev pub fields_in : Place → ℕ → Member → List FieldInfo
fields_in p c (t.AField f) = map (field_info p c f.mods f.ty) f.vars
fields_in p c (t.AMethod m) = []

-- a constructor
abbrev pub constructs : Member → Bool
constructs (t.AField f) = false
constructs (t.AMethod m) = m.constructor

abbrev pub with_type : Place → Declaration → World → World
with_type p x w = record {
  types = w.types ++ type_info p (length w.types) (length w.methods) (length w.fields) x ∷ [];
  methods = w.methods ++ methods_of p (length w.types) x.decl;
  fields = w.fields ++ fields_of p (length w.types) x.decl;
  walk = w.walk;
  above = w.above;
}

abbrev pub with_types : (Declaration → Place) → List Declaration → World → World
with_types at [] w = w
with_types at (x ∷ xs) w = with_types at xs (with_type (at x) x w)

-- the declarations of types in the file of number i
abbrev pub declared_in : ℕ → File → List TypeDecl → List Declaration
declared_in i f = map (λ d. record { file = f; number = i; decl = d })

-- these files are those of the program from number i on
abbrev pub AreFrom : ℕ → List File → List File → Type 0
AreFrom i fs gs = (k : ℕ) (f : File) → slice_get gs k ≡ Some f → slice_get fs (i + k) ≡ Some f
