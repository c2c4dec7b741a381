-- What the files of a program hold, and what stops their reading. Sizes are in bytes.
use Rattle.std.specs.Prelude.{◌≡◌, ◌<◌, ◌≤◌, ℕ, zero, suc, ◌+◌, List, [], ◌∷◌, length, Option, Some, None}
use Rattle.tool_files.specs.Told.{Look}

-- the name holds this, where contents are told
abbrev pub Holds : Option Look → List ℕ → List ℕ → Type 0
Holds None name text = Unit {0}
Holds (Some look) name text = look name ≡ Some text

-- the name is absent, where contents are told
abbrev pub IsAbsent : Option Look → List ℕ → Type 0
IsAbsent None name = Unit {0}
IsAbsent (Some look) name = look name ≡ None

-- the name is there, where contents are told
abbrev pub IsThere : Option Look → List ℕ → Type 0
IsThere None name = Unit {0}
IsThere (Some look) name = (text : List ℕ) × (look name ≡ Some text)

abbrev pub most_of_one : ℕ
most_of_one = 1048576

abbrev pub most_of_all : ℕ
most_of_all = 4194304

-- behind `before` bytes of the files before it, the file is not too large
abbrev pub HasRoom : ℕ → List ℕ → Type 0
HasRoom before text = (length text ≤ most_of_one) × (before + length text ≤ most_of_all)

abbrev pub AreSmall : List (List ℕ) → Type 0
AreSmall [] = Unit {0}
AreSmall (x ∷ xs) = (length x ≤ most_of_one) × AreSmall xs

-- the names hold these texts, none of which is too large
abbrev pub AreHeld : Option Look → ℕ → List (List ℕ) → List (List ℕ) → Type 0
AreHeld look before [] texts = texts ≡ []
AreHeld look before (n ∷ ns) [] = ⊥
AreHeld look before (n ∷ ns) (x ∷ xs) = Holds look n x × HasRoom before x × AreHeld look (before + length x) ns xs

-- what stops the reading
pub data Stop : Type 0 where
  Missing : Stop
  Failed : Stop
  TooLarge : Stop  -- L2
  TooMuch : Stop  -- L3

-- at a file, behind so many bytes
abbrev pub StopsHere : Option Look → ℕ → List ℕ → Stop → Type 0
StopsHere look before name Missing = IsAbsent look name
StopsHere look before name Failed = IsThere look name
StopsHere look before name TooLarge = (text : List ℕ) × Holds look name text × (most_of_one < length text)
StopsHere look before name TooMuch = (text : List ℕ) × Holds look name text × (length text ≤ most_of_one) × (most_of_all < before + length text)

-- the reading stops at the file with this number, and the files before it are read
abbrev pub StopsAt : Option Look → ℕ → List (List ℕ) → ℕ → Stop → Type 0
StopsAt look before [] k stop = ⊥
StopsAt look before (n ∷ ns) zero stop = StopsHere look before n stop
StopsAt look before (n ∷ ns) (suc k) stop = (text : List ℕ) × Holds look n text × HasRoom before text × StopsAt look (before + length text) ns k stop
