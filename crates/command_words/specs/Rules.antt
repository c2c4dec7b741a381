-- The rules on words, by number.
use Rattle.std.specs.Prelude.{◌≡◌, ◌≢◌, ◌⊎◌, ℕ, ◌<◌, ◌≤◌, true, IsTrue, List, [], ◌∷◌, ◌++◌, length, Some, None, slice_get, codes}
use Rattle.java_tree.specs.Names.{AreDistinct}
use Rattle.command_words.specs.declared.table.Command.{Command}
use Rattle.command_words.specs.declared.table.Command.TheVariants as command
use Rattle.command_words.specs.declared.table.Role.{Role}
use Rattle.command_words.specs.declared.table.Role.TheVariants as role
use Rattle.command_words.specs.Names.{is_among, IsNumber, IsIdentifier, IsPath, folder_of, within, source_name}
use Rattle.command_words.specs.Table.{word_of, first_roles, more_role, role_of, takes_files, Parts, parts_of}

-- each word, with its place
abbrev pub Each : (ℕ → List ℕ → Type 0) → List (List ℕ) → Type 0
Each P ws = (i : ℕ) (w : List ℕ) → slice_get ws i ≡ Some w → P i w

-- an own word that is the role
abbrev pub IsIn : Command → List (List ℕ) → Role → List ℕ → Type 0
IsIn c own r w = (i : ℕ) × (slice_get own i ≡ Some w) × (role_of c i ≡ r)

abbrev pub files : Parts → List (List ℕ)
files p = p.users ++ p.libs

-- 1: the first word is a command's
abbrev pub NamesCommand : List (List ℕ) → Type 0
NamesCommand words = (c : Command) × (rest : List (List ℕ)) × (words ≡ word_of c ∷ rest)

-- 2: neither too few own words nor too many, a third word of `run` is `=`, and `--` stands there exactly where files may
abbrev pub FitsLength : Command → ℕ → Type 0
FitsLength c n = (length (first_roles c) ≤ n) × (more_role c ≡ None → n ≡ length (first_roles c))

abbrev pub HasEquals : Command → List (List ℕ) → Type 0
HasEquals c own = (w : List ℕ) → c ≡ command.Run → slice_get own 2 ≡ Some w → w ≡ codes "="

abbrev pub HasShape : Command → Parts → Type 0
HasShape c p = FitsLength c (length p.own) × HasEquals c p.own × (p.dashed ≡ takes_files c)

-- 3: N is a number, and LINE, COL and K are such above 0
abbrev pub FitsNumber : Role → List ℕ → Type 0
FitsNumber role.Count w = (n : ℕ) × IsNumber w n
FitsNumber role.Number w = (n : ℕ) × IsNumber w n × (0 < n)
FitsNumber _ w = Unit {0}

abbrev pub HasNumbers : Command → Parts → Type 0
HasNumbers c p = Each (λ i w. FitsNumber (role_of c i) w) p.own

-- 4: there is a user file
abbrev pub HasUsers : Command → Parts → Type 0
HasUsers c p = takes_files c ≡ true → p.users ≢ []

-- 5: OUT and the names of files are paths, and no file is named twice
abbrev pub FitsOut : Role → List ℕ → Type 0
FitsOut role.Out w = IsPath w
FitsOut _ w = Unit {0}

abbrev pub HasPaths : Command → Parts → Type 0
HasPaths c p = Each (λ i w. FitsOut (role_of c i) w) p.own × Each (λ i w. IsPath w) (files p) × AreDistinct (files p)

-- 6: no output has the name of an input. NEWNAME.java counts in the folder of each user file.
abbrev pub IsOutput : Command → Parts → List ℕ → Type 0
IsOutput c p name =
    (out : List ℕ) × (file : List ℕ) × IsIn c p.own role.Out out × IsTrue (is_among file p.users)
    × ((name ≡ within out file) ⊎ ((new : List ℕ) × IsIn c p.own role.NewName new × (name ≡ within out (folder_of file ++ source_name new))))

abbrev pub KeepsInputs : Command → Parts → Type 0
KeepsInputs c p = (name : List ℕ) → IsOutput c p name → IsTrue (is_among name (files p)) → ⊥

-- 7: CLASS, SUPER, TYPE, NEWNAME and each METHOD and MEMBER is an identifier
abbrev pub FitsIdentifier : Role → List ℕ → Type 0
FitsIdentifier role.Identifier w = IsIdentifier w
FitsIdentifier role.NewName w = IsIdentifier w
FitsIdentifier role.Member w = IsIdentifier w
FitsIdentifier _ w = Unit {0}

abbrev pub HasIdentifiers : Command → Parts → Type 0
HasIdentifiers c p = Each (λ i w. FitsIdentifier (role_of c i) w) p.own

-- 8: FILE is a user file, and no METHOD or MEMBER stands twice
abbrev pub FitsFile : List (List ℕ) → Role → List ℕ → Type 0
FitsFile users role.File w = IsTrue (is_among w users)
FitsFile users _ w = Unit {0}

abbrev pub HasDistinctMembers : Command → List (List ℕ) → Type 0
HasDistinctMembers c own =
    (i j : ℕ) (w : List ℕ) → role_of c i ≡ role.Member → role_of c j ≡ role.Member → slice_get own i ≡ Some w → slice_get own j ≡ Some w → i ≡ j

abbrev pub NamesPlaces : Command → Parts → Type 0
NamesPlaces c p = Each (λ i w. FitsFile p.users (role_of c i) w) p.own × HasDistinctMembers c p.own

-- the rules from 2 on
pub record Meets (c : Command) (p : Parts) (n : ℕ) : Type 0 where
  pub shape : n ≡ 2 → HasShape c p
  pub numbers : n ≡ 3 → HasNumbers c p
  pub users : n ≡ 4 → HasUsers c p
  pub paths : n ≡ 5 → HasPaths c p
  pub inputs : n ≡ 6 → KeepsInputs c p
  pub identifiers : n ≡ 7 → HasIdentifiers c p
  pub places : n ≡ 8 → NamesPlaces c p

-- the lowest rule that the words break
abbrev pub IsLowest : List (List ℕ) → ℕ → Type 0
IsLowest words n =
    ((n ≡ 1) × (NamesCommand words → ⊥))
    ⊎ ((c : Command) × (rest : List (List ℕ)) × (words ≡ word_of c ∷ rest) × (Meets c (parts_of rest) n → ⊥) × ((m : ℕ) → m < n → Meets c (parts_of rest) m))
