-- A list that is made item by item.
use Rattle.std.proofs.Common.{◌≡◌, ℕ, zero, suc, ◌+◌, ◌<◌, List, [], ◌∷◌, ◌++◌, length, Some, slice_get, sym, ap, ◌∙◌, arith}

at_push : {A : Type 0} (f : ℕ → A) (xs : List A) (a : A) → a ≡ f (length xs) → ((i : ℕ) → i < length xs → slice_get xs i ≡ Some (f i)) → (i : ℕ) → i < length xs + 1 → slice_get (xs ++ a ∷ []) i ≡ Some (f i)
at_push f [] a e all zero low = ap Some e
at_push f [] a e all (suc i) low = absurd (omega (arith, low))
at_push f (x ∷ xs) a e all zero low = all 0 (omega arith)
at_push f (x ∷ xs) a e all (suc i) low = at_push (λ i. f (suc i)) xs a e (λ i h. all (suc i) (omega (arith, h))) i (omega (arith, low))

-- the items are those of a function, and so they are with the next one
pub pushed : {A : Type 0} (f : ℕ → A) (xs : List A) (a : A) (n : ℕ) → length xs ≡ n → a ≡ f n → ((i : ℕ) → i < n → slice_get xs i ≡ Some (f i)) → (i : ℕ) → i < n + 1 → slice_get (xs ++ a ∷ []) i ≡ Some (f i)
pushed f xs a n long e all i low = at_push f xs a (e ∙ ap f (sym long)) (λ i h. all i (omega (arith, h, long))) i (omega (arith, low, long))
