-- What files and sinks tell of themselves.
use Rattle.std.specs.Prelude.{◌≡◌, ℕ, ◌-◌, ◌^◌, ◌<◌, ◌≤◌, ◌⊎◌, List, ◌++◌, length, take, Option, Some, None, Result, Err}
use Rattle.tool_files.specs.declared.traits.FileFault.{FileFault}
use Rattle.tool_files.specs.declared.traits.FileFault.TheVariants as fault

-- the bytes that each name holds: a finite map, as the function that looks names up
abbrev pub Look : Type 0
Look = List ℕ → Option (List ℕ)

-- a count rose in a call, or is at its last value
abbrev pub Rose : ℕ → ℕ → Type 0
Rose old new = (old < new) ⊎ (new ≡ 2 ^ 64 - 1)

-- every other name is as before
abbrev pub SameBut : List ℕ → Look → Look → Type 0
SameBut name old new = (n : List ℕ) → (n ≡ name → ⊥) → new n ≡ old n

-- a fact of the contents before and after; what was told is told still
abbrev pub WhereTold : Option Look → Option Look → (Look → Look → Type 0) → Type 0
WhereTold None None P = Unit {0}
WhereTold (Some old) (Some new) P = P old new
WhereTold _ _ P = ⊥

-- the first bytes of a file, at most so many, come behind what was there
abbrev pub Reads : Option Look → List ℕ → ℕ → List ℕ → List ℕ → Type 0
Reads None name most before after = (more : List ℕ) × (after ≡ before ++ more) × (length more ≤ most)
Reads (Some look) name most before after = (bytes : List ℕ) × (look name ≡ Some bytes) × (after ≡ before ++ take most bytes)

-- where contents are told, a name that is absent is Missing, or memory ran out, and no other is
abbrev pub TellsAbsence : Option Look → List ℕ → Result (Unit {0}) FileFault → Type 0
TellsAbsence None name r = Unit {0}
TellsAbsence (Some look) name r = (r ≡ Err fault.Missing → look name ≡ None) × (look name ≡ None → (r ≡ Err fault.Missing) ⊎ (r ≡ Err fault.NoMemory))

abbrev pub PutsAt : List ℕ → List ℕ → Look → Look → Type 0
PutsAt name bytes old new = (new name ≡ Some bytes) × SameBut name old new

-- what was written, and then these bytes
abbrev pub Appends : Option (List ℕ) → Option (List ℕ) → List ℕ → Type 0
Appends None None bytes = Unit {0}
Appends (Some old) (Some new) bytes = new ≡ old ++ bytes
Appends _ _ bytes = ⊥

-- a front of these bytes
abbrev pub AppendsSome : Option (List ℕ) → Option (List ℕ) → List ℕ → Type 0
AppendsSome old new bytes = (k : ℕ) × Appends old new (take k bytes)
