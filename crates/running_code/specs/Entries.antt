-- The classes of the files, as the tables have them.
use Rattle.std.specs.Prelude.{◌≡◌, ℕ, ◌==◌, List, [], ◌∷◌, map, flat_map, Option, Some, if◌then◌else◌}
use Rattle.std.specs.List.{All, find}
use Rattle.java_core.specs.Plain as e
use Rattle.java_core.specs.View.{class_plain, field_plain, method_plain}
use Rattle.core_meaning.specs.Code.{classes_of, class_fields, class_methods, is_constant_value}
use Rattle.running_code.specs.declared.entries.Entry.{Entry}
use Rattle.running_code.specs.declared.entries.Classes.{Classes}
use Rattle.running_code.specs.Places.{ArePlaces}

abbrev pub class_of : Entry → e.Class
class_of x = class_plain x.class.now

abbrev pub fields_of : List e.Class → List e.FieldVar
fields_of xs = flat_map (λ (x : e.Class). class_fields (Some x)) xs

-- a class of a program, by number
abbrev pub class_in : e.Program → ℕ → Option e.Class
class_in p k = find (λ (x : e.Class). x.number == k) (classes_of p.files)

-- the numbers of the fields that have the value of a constant field
abbrev pub constants_in : List e.FieldVar → List ℕ
constants_in [] = []
constants_in (x ∷ xs) = if is_constant_value x.init then x.field ∷ constants_in xs else constants_in xs

-- it has the fields and methods of its class
pub record IsEntry (x : Entry) : Type 0 where
  pub fields : map (λ y. field_plain y.now) x.fields ≡ class_fields (Some (class_of x))
  pub constants : ArePlaces x.constants (constants_in (class_fields (Some (class_of x))))
  pub methods : map (λ y. method_plain y.now) x.methods ≡ class_methods (class_of x)
  pub places : ArePlaces x.places (map (λ y. y.now.method) x.methods)

abbrev pub AreEntries : List Entry → Type 0
AreEntries xs = All IsEntry xs

-- the table of a program
pub record AreClasses (p : e.Program) (t : Classes) : Type 0 where
  pub each : AreEntries t.entries
  pub classes : map class_of t.entries ≡ classes_of p.files
  pub places : ArePlaces t.places (map (λ x. (class_of x).number) t.entries)
  pub fields : map (λ y. field_plain y.now) t.fields ≡ fields_of (classes_of p.files)
