-- Loops over lists that carry a value along.
use Rattle.std.proofs.Common.{◌≡◌, ℕ, zero, suc, ◌+◌, ◌<◌, ◌≤◌, List, [], ◌∷◌, length, drop, get_or, Some, slice_get, refl, sym, ap, ◌∙◌, arith}
use Rattle.std.proofs.lemmas.List.{drop_more}
use Rattle.std.proofs.lemmas.Option.{slice_get_read}

pub next_item : {A : Type 0} (xs : List A) (i : ℕ) (x : A) → i < length xs → x ≡ get_or xs i x → drop i xs ≡ x ∷ drop (i + 1) xs
next_item xs i x h e = drop_more xs i x h ∙ ap (λ y. y ∷ drop (i + 1) xs) (sym e)

pub none_left : {A : Type 0} (xs : List A) (i : ℕ) → length xs ≤ i → drop i xs ≡ []
none_left [] zero past = refl
none_left [] (suc i) past = refl
none_left (x ∷ xs) zero past = absurd (omega arith)
none_left (x ∷ xs) (suc i) past = none_left xs i (omega arith)

-- F is a recursion over the list that carries a value along by f
pub walk_step : {A S : Type 0} (F : List A → S → S) (f : A → S → S) (xs : List A) (i : ℕ) (x : A) (s r all : S) → ((x : A) (xs : List A) (s : S) → F (x ∷ xs) s ≡ F xs (f x s))
    → i < length xs → x ≡ get_or xs i x → r ≡ f x s → F (drop i xs) s ≡ all → F (drop (i + 1) xs) r ≡ all
walk_step F f xs i x s r all law h e is so_far = ap (λ r. F (drop (i + 1) xs) r) is ∙ sym (law x (drop (i + 1) xs) s) ∙ ap (λ l. F l s) (sym (next_item xs i x h e)) ∙ so_far

pub walk_end : {A S : Type 0} (F : List A → S → S) (xs : List A) (i : ℕ) (s all : S) → (F [] s ≡ s) → length xs ≤ i → F (drop i xs) s ≡ all → s ≡ all
walk_end F xs i s all law past so_far = sym law ∙ ap (λ l. F l s) (sym (none_left xs i past)) ∙ so_far

size_at : {A : Type 0} (F : List A → ℕ) (f : A → ℕ) (xs : List A) (i : ℕ) (x : A) → ((x : A) (xs : List A) → F (x ∷ xs) ≡ f x + F xs) → slice_get xs i ≡ Some x → f x ≤ F xs
size_at F f [] i x law e = absurd (cc)
size_at F f (y ∷ ys) zero x law e = (let same : y ≡ x = cc in let all = law y ys in let one = ap f same in omega (arith, all, one))
size_at F f (y ∷ ys) (suc i) x law e = (let rest = size_at F f ys i x law e in let all = law y ys in omega (arith, all, rest))

-- a size that sums over the list is no less than that of an item
pub size_in : {A : Type 0} (F : List A → ℕ) (f : A → ℕ) (xs : List A) (i : ℕ) (x : A) → ((x : A) (xs : List A) → F (x ∷ xs) ≡ f x + F xs) → i < length xs → x ≡ get_or xs i x → f x ≤ F xs
size_in F f xs i x law h e = size_at F f xs i x law (slice_get_read xs (length xs) i x refl h e)
