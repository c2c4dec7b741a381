-- The place of the node that has a number.
use Rattle.std.specs.Prelude.{ℕ, ◌+◌, List, [], ◌∷◌, Option, Some, None}
use Rattle.java_tree.specs.Plain.{SourceUnit}
use Rattle.node_places.specs.declared.place.NodePlace.{NodePlace}
use Rattle.node_places.specs.Seek as seek

-- in this file, if it has the node
abbrev pub in_file : (file : ℕ) → Option ℕ → Option NodePlace → Option NodePlace
in_file file (Some at) later = Some (record { file = file; at = at })
in_file file None later = later

-- in files of which the first has this number
abbrev pub place_from : (file : ℕ) → List SourceUnit → (number : ℕ) → Option NodePlace
place_from file [] number = None
place_from file (u ∷ us) number = in_file file (seek.unit number u) (place_from (file + 1) us number)

-- the first file that has a node with this number, and the first byte of the node there
abbrev pub place_of : List SourceUnit → (number : ℕ) → Option NodePlace
place_of us number = place_from 0 us number
