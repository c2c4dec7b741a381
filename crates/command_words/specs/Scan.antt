-- What the code asks of a word's bytes on the way.
use Rattle.std.specs.Prelude.{◌≡◌, ℕ, ◌+◌, ◌<◌, ◌≤◌, true, IsTrue, List, [], ◌∷◌, ◌++◌, Option, Some, None, drop, slice_index}
use Rattle.java_lexer.specs.Bytes.{is_start, is_part}
use Rattle.command_words.specs.declared.table.Command.{Command}
use Rattle.command_words.specs.declared.table.Command.TheVariants as command
use Rattle.command_words.specs.Table.{role_of, Parts}
use Rattle.command_words.specs.Rules.{FitsOut, files, Meets}
use Rattle.command_words.specs.Names.{is_among, IsPath, within, source_name}

abbrev pub BeginsNumber : List ℕ → Type 0
BeginsNumber w = (48 < slice_index w 0) × (slice_index w 0 ≤ 57)

-- later bytes of an identifier
abbrev pub AreLater : List ℕ → Type 0
AreLater [] = Unit {0}
AreLater (b ∷ bs) = (is_part b ≡ true) × AreLater bs

-- the bytes of a word
abbrev pub IsSpelled : List ℕ → Type 0
IsSpelled [] = ⊥
IsSpelled (b ∷ bs) = (is_start b ≡ true) × AreLater bs

-- P holds of each word, where the first has the place i
abbrev pub AllFrom : (ℕ → List ℕ → Type 0) → ℕ → List (List ℕ) → Type 0
AllFrom P i [] = Unit {0}
AllFrom P i (w ∷ ws) = P i w × AllFrom P (i + 1) ws

-- the name is that of one of the files in OUT
abbrev pub IsWritten : List ℕ → List (List ℕ) → List ℕ → Type 0
IsWritten out files name = (file : List ℕ) × (name ≡ within out file) × IsTrue (is_among file files)

-- it is NEWNAME.java in one of the folders there
abbrev pub IsCreated : List ℕ → List ℕ → List (List ℕ) → List ℕ → Type 0
IsCreated out new folders name = (folder : List ℕ) × (name ≡ within out (folder ++ source_name new)) × IsTrue (is_among folder folders)

-- no input has the property
abbrev pub Spares : (List ℕ → Type 0) → Parts → Type 0
Spares P p = (name : List ℕ) → IsTrue (is_among name (files p)) → P name → ⊥

-- OUT and the names of files are paths
abbrev pub AreAllPaths : Command → Parts → Type 0
AreAllPaths c p = AllFrom (λ i w. FitsOut (role_of c i) w) 0 p.own × AllFrom (λ i w. IsPath w) 0 p.users × AllFrom (λ i w. IsPath w) 0 p.libs

-- the METHOD or MEMBER words
abbrev pub members_of : Command → List (List ℕ) → List (List ℕ)
members_of command.ExtractInterface own = drop 3 own
members_of command.PullUp own = drop 3 own
members_of _ own = []

-- the lowest rule that is broken, if one is
abbrev pub MeetsFound : Command → Parts → Option ℕ → Type 0
MeetsFound c p None = (n : ℕ) → Meets c p n
MeetsFound c p (Some n) = (Meets c p n → ⊥) × ((m : ℕ) → m < n → Meets c p m)
