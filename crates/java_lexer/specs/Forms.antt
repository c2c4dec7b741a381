-- Forms, of which the grammar of tokens is made. A form says of a number n and a text that the first n bytes of the text have it.
use Rattle.std.specs.Prelude.{◌≡◌, ◌⊎◌, ℕ, zero, suc, Bool, true, List, [], ◌∷◌}

-- nothing
abbrev pub Nothing : ℕ → List ℕ → Type 0
Nothing n bs = n ≡ 0

-- a byte that passes, and then a form
abbrev pub One : (ℕ → Bool) → (ℕ → List ℕ → Type 0) → ℕ → List ℕ → Type 0
One p Then zero bs = ⊥
One p Then (suc n) [] = ⊥
One p Then (suc n) (b ∷ bs) = (p b ≡ true) × Then n bs

-- bytes that pass, none or more, and then a form
abbrev pub Many : (ℕ → Bool) → (ℕ → List ℕ → Type 0) → ℕ → List ℕ → Type 0
Many p Then zero bs = Then zero bs
Many p Then (suc n) [] = Then (suc n) []
Many p Then (suc n) (b ∷ bs) = Then (suc n) (b ∷ bs) ⊎ ((p b ≡ true) × Many p Then n bs)

-- one form or the other
abbrev pub Or : (ℕ → List ℕ → Type 0) → (ℕ → List ℕ → Type 0) → ℕ → List ℕ → Type 0
Or This That n bs = This n bs ⊎ That n bs

-- a byte that passes or none, and then a form
abbrev pub Maybe : (ℕ → Bool) → (ℕ → List ℕ → Type 0) → ℕ → List ℕ → Type 0
Maybe p Then = Or Then (One p Then)
