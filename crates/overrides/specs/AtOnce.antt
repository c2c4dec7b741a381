-- The table of what each method overrides at once.
use Rattle.std.specs.Prelude.{◌≡◌, ℕ, Some, length}
use Rattle.class_world.specs.declared.world.World.{World}
use Rattle.class_world.specs.Signatures.{AgreeBelow}
use Rattle.class_world.specs.Overriding.{Replaces, OverridesAtOnce, Overriding}
use Rattle.overrides.specs.declared.at_once.TheConstants.{FREE, APART}
use Rattle.overrides.specs.Tables.{Rows, IsOfSize, value_at}

-- m and what t overrides have one signature in each type below both
abbrev pub IsFree : World → ℕ → ℕ → Type 0
IsFree w m t = (k : ℕ) → Overriding w t k → AgreeBelow w m k

-- what the table says of two methods is right
pub record IsTie (w : World) (m t v : ℕ) : Type 0 where
  pub tied : (v ≡ APART → ⊥) → OverridesAtOnce w m t
  pub free : v ≡ FREE → IsFree w m t
  pub apart : v ≡ APART → AgreeBelow w m t → ⊥

-- the table has that m overrides t at once
abbrev pub IsTied : Rows → ℕ → ℕ → Type 0
IsTied table m t = (v : ℕ) × (value_at table m t ≡ Some v) × (v ≡ APART → ⊥)

-- what the table has is right, so far
pub record AreTies (w : World) (table : Rows) : Type 0 where
  pub size : IsOfSize (length w.methods) table
  pub each : (m t v : ℕ) → value_at table m t ≡ Some v → IsTie w m t v

abbrev pub KeepsTies : Rows → Rows → Type 0
KeepsTies old new = (m t : ℕ) → IsTied old m t → IsTied new m t

pub record AreAllTies (w : World) (table : Rows) : Type 0 where
  pub ties : AreTies w table
  pub all : (m t : ℕ) → OverridesAtOnce w m t → IsTied table m t

-- what may be written of a method that takes the place of another
pub record IsDeclaredTie (w : World) (v : ℕ) : Type 0 where
  pub tied : v ≡ APART → ⊥
  pub free : v ≡ FREE → (c m t : ℕ) → Replaces w c m t → IsFree w m t
