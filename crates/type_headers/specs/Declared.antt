-- The type declarations of a program, and what is known of a type before written types are read.
use Rattle.std.specs.Prelude.{ℕ, ◌+◌, List, [], ◌∷◌, ◌++◌, map, length, Some}
use Rattle.java_tree.specs.Plain.{TypeExpr, TypeDecl}
use Rattle.class_world.specs.declared.world.TypeInfo.{TypeInfo}
use Rattle.type_names.specs.declared.known.JavaNames.{JavaNames}
use Rattle.type_names.specs.Known.{File}
use Rattle.written_types.specs.Places.{Place, place_in}

-- a type declaration, and its file with the file's number (user files before library files)
pub record Declaration : Type 0 where
  pub file : File
  pub number : ℕ
  pub decl : TypeDecl

-- those of the files from number i on
abbrev pub declarations_from : ℕ → List File → List Declaration
declarations_from i [] = []
declarations_from i (f ∷ fs) = map (λ d. record { file = f; number = i; decl = d }) f.unit.types ++ declarations_from (i + 1) fs

-- all of them in order; the k-th declares the type of number 19 + k
abbrev pub declarations : List File → List Declaration
declarations = declarations_from 0

-- a type's name, package, kind, modifiers, and how many type parameters it has
abbrev pub header : Declaration → TypeInfo
header x = record {
  name = x.decl.name;
  «package» = x.file.unit.«package»;
  interface = x.decl.interface;
  mods = x.decl.mods;
  user = x.file.user;
  params = length x.decl.params;
  supers = [];
  methods = [];
  fields = [];
  node = Some x.decl.node.id;
}

-- the built-in types, and then what is known of the declared ones; the number of a type is its place
abbrev pub headers : List TypeInfo → List File → List TypeInfo
headers built fs = built ++ map header (declarations fs)

-- what names mean in a declaration
abbrev pub place_of : JavaNames → List File → List TypeInfo → Declaration → Place
place_of j fs types x = place_in j fs x.file types x.decl.params

-- the written supertypes in order: the superclass or the superinterfaces, then the interfaces (JLS 8.1.4, 8.1.5, 9.1.3)
abbrev pub written_supers : TypeDecl → List TypeExpr
written_supers d = d.extends ++ d.implements
