-- A table of the places of nodes, by their numbers.
use Rattle.std.specs.Prelude.{ℕ, unwrap_or, List, [], ◌∷◌, Option, Some, None, slice_get}
use Rattle.java_tree.specs.declared.tree.Node.{Node}
use Rattle.node_places.specs.Seek.{own}
use Rattle.node_places.specs.Places.{in_file}
use Rattle.node_places.specs.declared.place.NodePlace.{NodePlace}

-- the first byte of the first node that has the number
abbrev pub first : (number : ℕ) → List Node → Option ℕ
first k [] = None
first k (n ∷ ns) = own k n (first k ns)

-- what a table tells of a number: nothing behind its end
abbrev pub told : List (Option NodePlace) → (number : ℕ) → Option NodePlace
told t k = unwrap_or (slice_get t k) None

-- the first of two
abbrev pub or_later : Option NodePlace → Option NodePlace → Option NodePlace
or_later (Some p) later = Some p
or_later None later = later

-- of nodes in a file
abbrev pub told_of : (file number : ℕ) → List Node → Option NodePlace
told_of file k ns = in_file file (first k ns) None
