-- Rows of a table that begin as others.
use Rattle.std.specs.Prelude.{◌≡◌, ℕ, Option, Some, None}
use Rattle.overrides.specs.Tables.{Rows, value_at}

-- what a row has at a key that begins as another, or with nothing
abbrev pub begun_with : Rows → Option ℕ → ℕ → Option ℕ
begun_with t None key = None
begun_with t (Some from) key = value_at t from key

-- a value, or else another
abbrev pub first_of : Option ℕ → Option ℕ → Option ℕ
first_of None other = other
first_of (Some value) other = Some value

-- all rows stay, but one
abbrev pub StaysBut : Rows → Rows → ℕ → Type 0
StaysBut old new row = (a b : ℕ) → (a ≡ row → ⊥) → value_at new a b ≡ value_at old a b

-- The row begins as another, or with nothing.
pub record IsBegun (old new : Rows) (row : ℕ) (from : Option ℕ) : Type 0 where
  pub here : (key : ℕ) → value_at new row key ≡ begun_with old from key
  pub there : StaysBut old new row

-- The row has the new values, and at all other keys what it had.
pub record IsOverlaid (old new : Rows) (row : ℕ) (value : ℕ → Option ℕ) : Type 0 where
  pub here : (key : ℕ) → value_at new row key ≡ first_of (value key) (value_at old row key)
  pub there : StaysBut old new row
