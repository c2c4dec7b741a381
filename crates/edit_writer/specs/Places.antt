-- Lines and columns. A line ends at LF, at CR, or at CR LF; lines and columns count from 1, and columns count bytes.
use Rattle.std.specs.Prelude.{ℕ, zero, suc, ◌+◌, Bool, false, not, ◌&&◌, ◌||◌, ◌==◌, if◌then◌else◌, List, [], ◌∷◌}
use Rattle.edit_writer.specs.declared.places.Place.{Place}

abbrev pub begins_with_feed : List ℕ → Bool
begins_with_feed [] = false
begins_with_feed (b ∷ bs) = b == 10

-- the byte is the last of its line, where these bytes follow
abbrev pub ends_line : ℕ → List ℕ → Bool
ends_line b bs = (b == 10) || ((b == 13) && not (begins_with_feed bs))

-- the place of the byte at an offset of a text that begins at this line and column
abbrev pub place_from : ℕ → ℕ → List ℕ → ℕ → Place
place_from l c bs zero = record { line = l; col = c }
place_from l c [] (suc p) = record { line = l; col = c }
place_from l c (b ∷ bs) (suc p) = if ends_line b bs then place_from (l + 1) 1 bs p else place_from l (c + 1) bs p

abbrev pub place_at : List ℕ → ℕ → Place
place_at text p = place_from 1 1 text p
