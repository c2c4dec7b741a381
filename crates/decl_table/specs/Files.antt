-- Some of a program's files.
use Rattle.std.specs.Prelude.{◌≡◌, ℕ, ◌+◌, List, Some, slice_get}
use Rattle.type_names.specs.Known.{File}

-- these files stand in the list from number i on
abbrev pub StandAt : List File → ℕ → List File → Type 0
StandAt fs i gs = (k : ℕ) (g : File) → slice_get gs k ≡ Some g → slice_get fs (i + k) ≡ Some g
