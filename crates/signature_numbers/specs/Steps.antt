-- Rows of parts with numbers: the number of a row and a part give that of the row with this part. A map is seen as its entries.
use Rattle.std.specs.Prelude.{◌≡◌, ℕ, ◌<◌, ◌≤◌, Bool, List, [], ◌∷◌, Option, Some, length}
use Rattle.std.specs.Option.{option_and_then}
use Rattle.std.specs.Map.{lookup}
use Rattle.signature_numbers.specs.contracts.codes.StepPartialEq.TheImpl.{eq-value}
use Rattle.signature_numbers.specs.declared.codes.Part.{Part}
use Rattle.signature_numbers.specs.declared.codes.Step.{Step}

abbrev pub Steps : Type 0
Steps = List (Step × ℕ)

-- what `==` answers
abbrev pub same_step : Step → Step → Bool
same_step = eq-value.it

abbrev pub found_in : Steps → Step → Option ℕ
found_in m k = lookup (same_step k) m

abbrev pub next_in : Steps → ℕ → Part → Option ℕ
next_in m s p = found_in m (record { after = s; part = p })

-- where a row of parts leads from a number
abbrev pub reached : (ℕ → Part → Option ℕ) → Option ℕ → List Part → Option ℕ
reached next o [] = o
reached next o (p ∷ ps) = reached next (option_and_then (λ s. next s p) o) ps

-- No two steps have one number, and none has that of the empty row.
pub record AreSteps (find : Step → Option ℕ) (count : ℕ) : Type 0 where
  pub some : (k : Step) (n : ℕ) → find k ≡ Some n → 0 < n
  pub below : (k : Step) (n : ℕ) → find k ≡ Some n → n ≤ count
  pub apart : (j k : Step) (n : ℕ) → find j ≡ Some n → find k ≡ Some n → j ≡ k

abbrev pub HasSteps : Steps → Type 0
HasSteps m = AreSteps (found_in m) (length m)

-- what has a number keeps it
abbrev pub Keeps : Steps → Steps → Type 0
Keeps old new = (k : Step) (n : ℕ) → found_in old k ≡ Some n → found_in new k ≡ Some n
