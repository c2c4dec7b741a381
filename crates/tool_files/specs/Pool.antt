-- How files lie in memory: their names and bytes are parts of one list.
use Rattle.std.specs.Prelude.{◌≡◌, ◌≢◌, ℕ, ◌<◌, ◌≤◌, List, length, map, All, HoldsAt, slice_range}
use Rattle.tool_files.specs.declared.mem.Part.{Part}
use Rattle.tool_files.specs.declared.mem.Entry.{Entry}
use Rattle.tool_files.specs.Memory.{File}

abbrev pub part_of : List ℕ → Part → List ℕ
part_of pool p = slice_range pool p.start p.end

abbrev pub file_of : List ℕ → Entry → File
file_of pool e = record { name = part_of pool e.name; bytes = part_of pool e.bytes }

abbrev pub files_of : List ℕ → List Entry → List File
files_of pool es = map (file_of pool) es

-- a part of a list of this length
abbrev pub IsPart : ℕ → Part → Type 0
IsPart n p = (p.start ≤ p.end) × (p.end ≤ n)

abbrev pub IsEntry : ℕ → Entry → Type 0
IsEntry n e = IsPart n e.name × IsPart n e.bytes

abbrev pub AreEntries : ℕ → List Entry → Type 0
AreEntries n es = All (IsEntry n) es

-- the first entry of the name is at i
abbrev pub IsPlaceOf : List ℕ → List Entry → List ℕ → ℕ → Type 0
IsPlaceOf pool es name i =
    (i < length es)
    × HoldsAt (λ e. part_of pool e.name ≡ name) es i
    × ((k : ℕ) → k < i → HoldsAt (λ e. part_of pool e.name ≢ name) es k)
