-- The tables by which a name is looked up: what each holds.
use Rattle.std.specs.Prelude.{◌≡◌, ◌↔◌, ℕ, Bool, false, ◌&&◌, ◌||◌, not, nat_eq, nat_le, if◌then◌else◌, List, [], ◌∷◌, map, flat_map, length, Option, Some, None, slice_get}
use Rattle.std.specs.List.{list_any, position_from}
use Rattle.std.specs.Option.{unwrap_or}
use Rattle.std.specs.HashMap.{get}
use Rattle.std.specs.HashSet.{contains}
use Rattle.std.specs.Bool.{beq}
use Rattle.java_tree.specs.declared.tree.Name.{Name}
use Rattle.java_tree.specs.declared.tree.Import.{Import}
use Rattle.java_tree.specs.Plain.{SourceUnit}
use Rattle.type_names.specs.declared.known.JavaNames.{JavaNames}
use Rattle.type_names.specs.declared.known.Known as code
use Rattle.type_names.specs.declared.firsts.TypeKey.{TypeKey}
use Rattle.type_names.specs.declared.firsts.FirstTypes.{FirstTypes}
use Rattle.type_names.specs.declared.name_homes.NameHomes.{NameHomes}
use Rattle.type_names.specs.declared.files.FileNames.{FileNames}
use Rattle.type_names.specs.declared.table.TypeNames.{TypeNames}
use Rattle.type_names.specs.Known.{KnownType, File, types_of, lang_package, io_package}
use Rattle.type_names.specs.Sees.{same_path, full_name, is_open}
use Rattle.type_names.specs.Paths.{number_in, place_in, HasPath}

-- the packages of the program: those of built-in types, then each file's
abbrev pub packages : JavaNames → List File → List (List Name)
packages j fs = lang_package j ∷ io_package j ∷ map (λ f. f.unit.«package») fs

-- these are the packages of the library files
abbrev pub AreLibrary : List (List Name) → List File → Type 0
AreLibrary ps fs = (path : List Name) → HasPath ps path ↔ ((i : ℕ) × (f : File) × (slice_get fs i ≡ Some f) × (f.user ≡ false) × (path ≡ f.unit.«package»))

-- a type with its package by number
abbrev pub brief : List (List Name) → KnownType → code.Known
brief ps t = record { «package» = place_in ps t.«package»; name = t.name; is_public = t.is_public; user = t.user; node = t.node }

-- the files of a list of units
abbrev pub files_in : Bool → List SourceUnit → List File
files_in user us = map (λ u. record { unit = u; user = user }) us

-- the lower of two numbers that may be missing
abbrev pub least : Option ℕ → Option ℕ → Option ℕ
least None b = b
least (Some a) None = Some a
least (Some a) (Some b) = if nat_le a b then Some a else Some b

-- whether two keys are the same
abbrev pub same_key : TypeKey → TypeKey → Bool
same_key k q = beq k.public_only q.public_only && (beq k.library_only q.library_only && (nat_eq k.«package» q.«package» && nat_eq k.name q.name))

-- whether a type counts under a key
abbrev pub fits : TypeKey → code.Known → Bool
fits q t = (not q.public_only || t.is_public) && ((not q.library_only || not t.user) && (nat_eq t.«package» q.«package» && nat_eq t.name.0 q.name))

-- the number that the table has for a key
abbrev pub first_at : FirstTypes → TypeKey → Option ℕ
first_at t q = get same_key t.firsts q

-- the key of the types of a name in a package that are open to a file of package h
abbrev pub open_key : ℕ → Bool → ℕ → ℕ → TypeKey
open_key h user p x = record { public_only = not (nat_eq p h); library_only = not user; «package» = p; name = x }

-- The tables of a list of types: the package of each is one of the program.
pub record HoldsTypes (ps : List (List Name)) (t : FirstTypes) (ts : List KnownType) : Type 0 where
  pub homes : (k : ℕ) (x : KnownType) → slice_get ts k ≡ Some x → number_in ps x.«package» ≡ Some (place_in ps x.«package»)
  pub firsts : (q : TypeKey) → first_at t q ≡ position_from (fits q) 0 (map (brief ps) ts)

-- what a table has for a number, the empty list if it has nothing
abbrev pub list_at : (ℕ → Option (List ℕ)) → ℕ → List ℕ
list_at find x = unwrap_or (find x) []

-- the packages of the types of a name, one for each
abbrev pub homes_in : ℕ → List code.Known → List ℕ
homes_in x = flat_map (λ (k : code.Known). if nat_eq k.name.0 x then k.«package» ∷ [] else [])

abbrev pub homes_of : NameHomes → ℕ → List ℕ
homes_of t = list_at (get nat_eq t.homes)

abbrev pub AreHomes : List code.Known → NameHomes → Type 0
AreHomes ts t = (x : ℕ) → homes_of t x ≡ homes_in x ts

-- the open types of a name in a package
abbrev pub is_open_in : File → List Name → ℕ → KnownType → Bool
is_open_in f path x t = nat_eq t.name.0 x && (is_open f t && same_path t.«package» path)

-- the open types of a name that one of these imports names
abbrev pub is_named_by : File → List Import → ℕ → KnownType → Bool
is_named_by f is x t = nat_eq t.name.0 x && (is_open f t && list_any (λ (i : Import). not i.all && same_path (full_name t) i.path) is)

-- the open types of a name in packages of these numbers
abbrev pub is_open_among : File → List (List Name) → List ℕ → ℕ → KnownType → Bool
is_open_among f ps d x t = nat_eq t.name.0 x && (is_open f t && list_any (λ y. nat_eq y (place_in ps t.«package»)) d)

-- the numbers of a set are those of a list
abbrev pub AreSame : (ℕ → Bool) → List ℕ → Type 0
AreSame has d = (p : ℕ) → has p ≡ list_any (λ y. nat_eq y p) d

-- the open types of a name in packages of these numbers that are in a set
abbrev pub is_open_both : File → List (List Name) → (ℕ → Bool) → List ℕ → ℕ → KnownType → Bool
is_open_both f ps has d x t = nat_eq t.name.0 x && (is_open f t && (has (place_in ps t.«package») && list_any (λ y. nat_eq y (place_in ps t.«package»)) d))

-- whether a file imports a package on demand, by itself or as each file does
abbrev pub has_on_demand : JavaNames → List Import → List Name → Bool
has_on_demand j is path = same_path path (lang_package j) || list_any (λ (i : Import). i.all && same_path path i.path) is

-- the numbers of the packages of the program that a file imports on demand
pub record HoldsDemands (ps : List (List Name)) (j : JavaNames) (is : List Import) (d : List ℕ) : Type 0 where
  pub real : (k p : ℕ) → slice_get d k ≡ Some p → (path : List Name) × (number_in ps path ≡ Some p)
  pub all : (path : List Name) (p : ℕ) → number_in ps path ≡ Some p → list_any (λ y. nat_eq y p) d ≡ has_on_demand j is path

-- what is kept of a file
pub record HoldsFile (ps : List (List Name)) (j : JavaNames) (ts : List KnownType) (f : File) (n : FileNames) : Type 0 where
  pub home : number_in ps f.unit.«package» ≡ Some n.home.«package»
  pub user : n.home.user ≡ f.user
  pub singles : (x : ℕ) → get nat_eq n.singles x ≡ position_from (is_named_by f f.unit.imports x) 0 ts
  pub demands : HoldsDemands ps j f.unit.imports n.on_demand.numbers.items
  pub seen : AreSame (contains nat_eq n.on_demand.seen) n.on_demand.numbers.items

-- what is kept of each of a list of files
pub record HoldsFiles (ps : List (List Name)) (j : JavaNames) (ts : List KnownType) (fs : List File) (ns : List FileNames) : Type 0 where
  pub count : length ns ≡ length fs
  pub files : (i : ℕ) (n : FileNames) (f : File) → slice_get ns i ≡ Some n → slice_get fs i ≡ Some f → HoldsFile ps j ts f n

-- The table is that of the program with these files.
pub record StandsFor (t : TypeNames) (j : JavaNames) (fs : List File) : Type 0 where
  pub homes : t.packages ≡ packages j fs
  pub library : AreLibrary t.library fs
  pub types : HoldsTypes t.packages t.firsts (types_of j fs)
  pub named : AreHomes (map (brief t.packages) (types_of j fs)) t.named
  pub files : HoldsFiles t.packages j (types_of j fs) fs t.files.items

-- each of these files is in a package with a number
abbrev pub HaveHomes : List (List Name) → List File → Type 0
HaveHomes ps fs = (k : ℕ) (f : File) → slice_get fs k ≡ Some f → number_in ps f.unit.«package» ≡ Some (place_in ps f.unit.«package»)
