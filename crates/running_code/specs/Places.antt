-- The first places of numbers in a list, and a table of them.
use Rattle.std.specs.Prelude.{◌≡◌, ◌<◌, ℕ, ◌+◌, ◌-◌, ◌==◌, nat_lt, List, [], ◌∷◌, length, Option, Some, None, slice_get, if◌then◌else◌}
use Rattle.std.specs.Option.{option_map, option_or, option_flatten}
use Rattle.running_code.specs.declared.places.Places.{Places}

-- where a number stands first
abbrev pub place_in : ℕ → List ℕ → Option ℕ
place_in k [] = None
place_in k (x ∷ xs) = if x == k then Some 0 else option_map (λ i. i + 1) (place_in k xs)

-- the place of one number alone
abbrev pub only_at : (number place : ℕ) → ℕ → Option ℕ
only_at number place k = if number == k then Some place else None

abbrev pub place_at : List (Option ℕ) → ℕ → Option ℕ
place_at row k = option_flatten (slice_get row k)

-- the place that a table has for a number
abbrev pub place : Places → ℕ → Option ℕ
place t k = if nat_lt k t.from then place_at t.below.items (t.from - 1 - k) else place_at t.above.items (k - t.from)

-- the row has the same places, and reaches past the number
abbrev pub IsGrown : (old new : List (Option ℕ)) → ℕ → Type 0
IsGrown old new at = (at < length new) × ((k : ℕ) → place_at new k ≡ place_at old k)

abbrev pub IsPutIn : (old new : List (Option ℕ)) → (at place : ℕ) → Type 0
IsPutIn old new at p = (k : ℕ) → place_at new k ≡ option_or (place_at old k) (only_at at p k)

abbrev pub IsPut : (old new : Places) → (number place : ℕ) → Type 0
IsPut old new n p = (k : ℕ) → place new k ≡ option_or (place old k) (only_at n p k)

-- the table of a list
abbrev pub ArePlaces : Places → List ℕ → Type 0
ArePlaces t ns = (k : ℕ) → place t k ≡ place_in k ns
