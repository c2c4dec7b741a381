-- The types of a program (JLS 7.3 and 7.6) and their packages (JLS 7.4). Names are numbers of one table in which no text stands twice. A package is
-- the list of the identifiers of its name, and the unnamed package the empty list.
use Rattle.std.specs.Prelude.{◌≡◌, ℕ, zero, suc, Bool, true, false, if◌then◌else◌, ◌==◌, List, [], ◌∷◌, ◌++◌, map, flat_map, length, Option, Some, None, slice_get, codes}
use Rattle.std.specs.List.{list_any}
use Rattle.java_tree.specs.declared.tree.Name.{Name}
use Rattle.java_tree.specs.declared.tree.Mod.{Mod}
use Rattle.java_tree.specs.declared.tree.Mod.TheVariants as mods
use Rattle.java_tree.specs.Plain.{TypeDecl, SourceUnit}
use Rattle.type_names.specs.declared.known.JavaNames.{JavaNames}

-- these are the numbers of the three names that the packages of built-in types are made of
abbrev pub AreJavaNames : List (List ℕ) → JavaNames → Type 0
AreJavaNames names j = (slice_get names j.java.0 ≡ Some (codes "java")) × (slice_get names j.lang.0 ≡ Some (codes "lang")) × (slice_get names j.io.0 ≡ Some (codes "io"))

-- java.lang and java.io
abbrev pub lang_package : JavaNames → List Name
lang_package j = j.java ∷ j.lang ∷ []

abbrev pub io_package : JavaNames → List Name
io_package j = j.java ∷ j.io ∷ []

-- A type of the program. One that a file declares has a node, and a built-in one has none.
pub record KnownType : Type 0 where
  pub «package» : List Name
  pub name : Name
  pub is_public : Bool
  pub user : Bool
  pub params : ℕ
  pub interface : Bool
  pub node : Option ℕ

-- A built-in type by its number, which is the number of its name too (java_tree's `built_in_names`). Number 3 is PrintStream.
abbrev pub built_in_type : JavaNames → ℕ → KnownType
built_in_type j k = record {
  «package» = if k == 3 then io_package j else lang_package j;
  name = record { 0 = k };
  is_public = true;
  user = false;
  params = 0;
  interface = false;
  node = None;
}

-- the numbers below n
abbrev pub numbers_below : ℕ → List ℕ
numbers_below zero = []
numbers_below (suc n) = numbers_below n ++ n ∷ []

-- a file of the program, and whether it is a user file
pub record File : Type 0 where
  pub unit : SourceUnit
  pub user : Bool

-- the files in order: user files, then library files
abbrev pub files_of : List SourceUnit → List SourceUnit → List File
files_of user lib = map (λ u. record { unit = u; user = true }) user ++ map (λ u. record { unit = u; user = false }) lib

abbrev pub is_public_mod : Mod → Bool
is_public_mod mods.Public = true
is_public_mod _ = false

abbrev pub declared_type : File → TypeDecl → KnownType
declared_type f d = record {
  «package» = f.unit.«package»;
  name = d.name;
  is_public = list_any is_public_mod d.mods;
  user = f.user;
  params = length d.params;
  interface = d.interface;
  node = Some d.node.id;
}

abbrev pub types_in : File → List KnownType
types_in f = map (declared_type f) f.unit.types

-- all types; the number of a type is its place
abbrev pub types_of : JavaNames → List File → List KnownType
types_of j fs = map (built_in_type j) (numbers_below 19) ++ flat_map types_in fs
