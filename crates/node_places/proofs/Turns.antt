-- Searches in each of a list.
use Rattle.std.proofs.Common.{◌≡◌, ℕ, zero, suc, ◌+◌, ◌<◌, ◌≤◌, List, [], ◌∷◌, length, drop, get_or, Option, Some, None, slice_get, refl, sym, ap, ◌∙◌, arith}
use Rattle.std.proofs.lemmas.List.{drop_more}
use Rattle.std.proofs.lemmas.Option.{slice_get_read}
use Rattle.node_places.specs.Seek.{or}

next_item : {A : Type 0} (xs : List A) (i : ℕ) (x : A) → i < length xs → x ≡ get_or xs i x → drop i xs ≡ x ∷ drop (i + 1) xs
next_item xs i x h e = drop_more xs i x h ∙ ap (λ y. y ∷ drop (i + 1) xs) (sym e)

-- F searches a list, and f one of it
module _ {A : Type 0} (F : List A → Option ℕ) (f : A → Option ℕ) (more : (x : A) (xs : List A) → F (x ∷ xs) ≡ or (f x) (F xs)) (xs : List A) (i : ℕ) (x : A) where
  -- the search from this one on
  here : i < length xs → x ≡ get_or xs i x → F (drop i xs) ≡ F xs → or (f x) (F (drop (i + 1) xs)) ≡ F xs
  here h e so_far = sym (more x (drop (i + 1) xs)) ∙ ap F (sym (next_item xs i x h e)) ∙ so_far

  -- this one has not the node
  pub passed : i < length xs → x ≡ get_or xs i x → f x ≡ None → F (drop i xs) ≡ F xs → F (drop (i + 1) xs) ≡ F xs
  passed h e none so_far = sym (ap (λ o. or o (F (drop (i + 1) xs))) none) ∙ here h e so_far

  -- it has it
  pub found : (at : ℕ) → i < length xs → x ≡ get_or xs i x → f x ≡ Some at → F (drop i xs) ≡ F xs → F xs ≡ Some at
  found at h e is so_far = sym (here h e so_far) ∙ ap (λ o. or o (F (drop (i + 1) xs))) is

-- ---- sizes

size_at : {A : Type 0} (F : List A → ℕ) (f : A → ℕ) (xs : List A) (i : ℕ) (x : A) → ((x : A) (xs : List A) → F (x ∷ xs) ≡ f x + F xs) → slice_get xs i ≡ Some x → f x ≤ F xs
size_at F f [] i x law e = absurd (cc)
size_at F f (y ∷ ys) zero x law e = (let same : y ≡ x = cc in let all = law y ys in let one = ap f same in omega (arith, all, one))
size_at F f (y ∷ ys) (suc i) x law e = (let rest = size_at F f ys i x law e in let all = law y ys in omega (arith, all, rest))

-- one of a list is no larger than the list
pub size_in : {A : Type 0} (F : List A → ℕ) (f : A → ℕ) (xs : List A) (i : ℕ) (x : A) → ((x : A) (xs : List A) → F (x ∷ xs) ≡ f x + F xs) → i < length xs → x ≡ get_or xs i x → f x ≤ F xs
size_in F f xs i x law h e = size_at F f xs i x law (slice_get_read xs (length xs) i x refl h e)
