-- What holds of all numbers below another one.
use Rattle.std.proofs.Common.{◌≡◌, ℕ, zero, suc, ◌+◌, ◌<◌, ◌≤◌, ◌⊎◌, inl, inr, subst, arith}

pub low_or_high : (k n : ℕ) → (k < n) ⊎ (n ≤ k)
low_or_high k zero = inr (omega arith)
low_or_high zero (suc n) = inl (omega arith)
low_or_high (suc k) (suc n) = more (low_or_high k n)
  where
    more : (k < n) ⊎ (n ≤ k) → (suc k < suc n) ⊎ (suc n ≤ suc k)
    more (inl h) = inl (omega (arith, h))
    more (inr h) = inr (omega (arith, h))

pub below_more : (P : ℕ → Type 0) (n : ℕ) → ((k : ℕ) → k < n → P k) → P n → (k : ℕ) → k < n + 1 → P k
below_more P n h p k low = at (low_or_high k n)
  where
    at : (k < n) ⊎ (n ≤ k) → P k
    at (inl lower) = h k lower
    at (inr higher) = let same : n ≡ k = omega (arith, low, higher) in subst P same p
