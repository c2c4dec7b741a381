-- The places of every 64th byte of a text.
use Rattle.std.specs.Prelude.{◌≡◌, ℕ, ◌*◌, ◌≤◌, length, List, Some, slice_get}
use Rattle.edit_writer.specs.declared.places.Place.{Place}
use Rattle.edit_writer.specs.Places.{place_at}
use Rattle.line_tables.specs.declared.table.TheConstants.{APART}

-- each mark is the place of the byte at 64 times its number, or of the end; there may be fewer than the text has room for
abbrev pub AreMarks : List ℕ → List Place → Type 0
AreMarks text ms = (j : ℕ) (p : Place) → slice_get ms j ≡ Some p → (APART * j ≤ length text) × (p ≡ place_at text (APART * j))
