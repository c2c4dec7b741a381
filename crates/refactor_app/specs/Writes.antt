-- Files that are written one after the other.
use Rattle.std.specs.Prelude.{◌≡◌, ◌⊎◌, List, [], ◌∷◌, ℕ, Option}
use Rattle.tool_files.specs.Told.{Look, SameBut, WhereTold, PutsAt}

-- what is written, each name with its text, and the report that is put behind it
pub record Writing : Type 0 where
  pub names : List (List ℕ)
  pub texts : List (List ℕ)
  pub report : List ℕ

-- each name holds its text, one written behind the other; every name that is none of these is as before
abbrev pub Writes : (names texts : List (List ℕ)) → (old new : Option Look) → Type 0
Writes [] ts old new = new ≡ old
Writes (n ∷ ns) [] old new = ⊥
Writes (n ∷ ns) (t ∷ ts) old new = (now : Option Look) × WhereTold old now (PutsAt n t) × Writes ns ts now new

-- the write of this name failed: those before it hold their texts, and those behind it are as before
abbrev pub FailsAt : (names texts : List (List ℕ)) → (name : List ℕ) → (old new : Option Look) → Type 0
FailsAt [] ts name old new = ⊥
FailsAt (n ∷ ns) [] name old new = ⊥
FailsAt (n ∷ ns) (t ∷ ts) name old new =
    ((n ≡ name) × WhereTold old new (SameBut n)) ⊎ ((now : Option Look) × WhereTold old now (PutsAt n t) × FailsAt ns ts name now new)
