-- Marks of the texts of files, for the places in them.
use Rattle.std.specs.Prelude.{◌≡◌, ℕ, unwrap_or, List, [], Some, slice_get}
use Rattle.edit_writer.specs.declared.places.Place.{Place}
use Rattle.line_tables.specs.Marks.{AreMarks}

-- those of a file: none where there is no table of it
abbrev pub marks_at : (tables : List (List Place)) → (file : ℕ) → List Place
marks_at tables file = unwrap_or (slice_get tables file) []

-- those of each file are marks of its text
abbrev pub AreTables : (texts : List (List ℕ)) → (tables : List (List Place)) → Type 0
AreTables texts tables = (file : ℕ) (x : List ℕ) → slice_get texts file ≡ Some x → AreMarks x (marks_at tables file)
