-- Ascending numbers, and ascending names with one more.
use Rattle.std.proofs.Common.{◌≡◌, ℕ, ◌+◌, ◌<◌, ◌≤◌, suc, List, [], ◌∷◌, ◌++◌, Result, Ok, Err, ◌⊎◌, inl, inr, sym, ap, ◌∙◌, length, take, drop, drop-cons, append_assoc, arith, nat_cmp}
use Rattle.std.specs.Prelude.{◌==◌, slice_index_or as get_or, MatchResult}
use Rattle.std.specs.List.{insert}
use Rattle.std.specs.List.Sorted.{IsStrictlyIncreasing, IsBinarySearchResult}
use Rattle.std.specs.Result.{is_ok}
use Rattle.std.specs.declared.cmp.Ordering.{Ordering}
use Rattle.std.specs.declared.cmp.Ordering.TheVariants as order
use Rattle.std.specs.Cmp.Lexicographic.{slice_cmp}
use Rattle.std.proofs.lemmas.Bool.{cases_lt, ne_eqb}
use Rattle.std.proofs.lemmas.Bool.Decides.{Decides-eqb}
use Rattle.std.proofs.lemmas.List.{drop_all, get_or_default, take-append-drop, take_all, take_more}
use Rattle.std.proofs.lemmas.List.Edits.{insert_end}
use Rattle.std.proofs.lemmas.List.Folds.{list_any_at, list_any_none}
use Rattle.std.proofs.lemmas.List.Kept.{AllPairs-from_increasing}
use Rattle.std.proofs.lemmas.List.Sorted.{searched}
use Rattle.interface_text.specs.Types.{is_among}
use Rattle.interface_text.specs.Imports.{put, put_by}

less_or_same : (i j : ℕ) → i ≤ j → (i < j) ⊎ (i ≡ j)
less_or_same i j h = grind (arith, h)

pub among : (xs : List ℕ) (x : ℕ) (r : Result ℕ ℕ) → IsStrictlyIncreasing xs → IsBinarySearchResult (λ y. nat_cmp y x) xs r → is_ok r ≡ is_among xs x
among xs x r rises says = go r (searched xs x r says ordered)
  where
    ordered : (i j : ℕ) → i ≤ j → j < length xs → get_or xs i 0 ≤ get_or xs j 0
    ordered i j le lt = elim (less_or_same i j le) [
      | inl less ↦ let low = AllPairs-from_increasing xs rises i j 0 less lt in omega (arith, low)
      | inr same ↦ let e : get_or xs i 0 ≡ get_or xs j 0 = ap (λ n. get_or xs n 0) same in omega (arith, e)
    ]

    away : (i : ℕ) → ((k : ℕ) → k < i → get_or xs k 0 < x) → ((k : ℕ) → i ≤ k → k < length xs → x < get_or xs k 0) → (k : ℕ) → k < length xs → get_or xs k 0 ≡ x → ⊥
    away i low high k lt e = elim (cases_lt k i) [
      | inl below ↦ let less = low k below in omega (arith, less, e)
      | inr above ↦ let more = high k above lt in omega (arith, more, e)
    ]

    same : (k d : ℕ) → k < length xs → get_or xs k 0 ≡ get_or xs k d
    same k d lt = get_or_default xs k 0 d lt

    go : (r : Result ℕ ℕ) → MatchResult r (λ i. (i < length xs) × (get_or xs i 0 ≡ x)) (λ i. (i ≤ length xs) × ((k : ℕ) → k < i → get_or xs k 0 < x) × ((k : ℕ) → i ≤ k → k < length xs → x < get_or xs k 0))
        → is_ok r ≡ is_among xs x
    go (Ok i) h = sym (list_any_at (λ y. y == x) xs i 0 h.0 ((Decides-eqb (get_or xs i 0) x).1 h.1))
    go (Err i) h = sym (list_any_none (λ y. y == x) xs (λ k d lt. ne_eqb (get_or xs k d) x (λ e. away i h.1 h.2 k lt (same k d lt ∙ e))))

-- ---- a name that is put, where those of the first i places come before it

step : (o : Ordering) (x y : List ℕ) (ys found : List (List ℕ)) (i : ℕ) → o ≡ slice_cmp nat_cmp x y → drop i found ≡ y ∷ ys
    → put x found ≡ take i found ++ put x (drop i found) → put x found ≡ take i found ++ put_by o x y ys (put x ys)
step o x y ys found i is at h = h ∙ ap (λ zs. take i found ++ put x zs) at ∙ ap (λ c. take i found ++ put_by c x y ys (put x ys)) (sym is)

split : (y : List ℕ) (found : List (List ℕ)) (i : ℕ) → i < length found → y ≡ get_or found i y → drop i found ≡ y ∷ drop (i + 1) found
split y found i lt at = drop-cons found i y lt ∙ ap (λ z. z ∷ drop (suc i) found) (sym at) ∙ ap (λ n. y ∷ drop n found) next
  where
    next : suc i ≡ i + 1
    next = omega arith

module _ (x y : List ℕ) (found : List (List ℕ)) (i : ℕ) (lt : i < length found) (at : y ≡ get_or found i y) (h : put x found ≡ take i found ++ put x (drop i found)) where
  pub put_before : order.Less ≡ slice_cmp nat_cmp x y → put x found ≡ insert found i x
  put_before is = step order.Less x y (drop (i + 1) found) found i is (split y found i lt at) h ∙ ap (λ zs. take i found ++ x ∷ zs) (sym (split y found i lt at))

  pub put_same : order.Equal ≡ slice_cmp nat_cmp x y → put x found ≡ found
  put_same is = step order.Equal x y (drop (i + 1) found) found i is (split y found i lt at) h ∙ ap (λ zs. take i found ++ zs) (sym (split y found i lt at)) ∙ take-append-drop i found

  pub put_behind : order.Greater ≡ slice_cmp nat_cmp x y → put x found ≡ take (i + 1) found ++ put x (drop (i + 1) found)
  put_behind is =
      step order.Greater x y (drop (i + 1) found) found i is (split y found i lt at) h
      ∙ sym (append_assoc (take i found) (y ∷ []) (put x (drop (i + 1) found)))
      ∙ ap (λ zs. zs ++ put x (drop (i + 1) found)) (ap (λ z. take i found ++ z ∷ []) at ∙ sym (take_more found i y lt))

pub put_last : (x : List ℕ) (found : List (List ℕ)) (i : ℕ) → length found ≤ i → put x found ≡ take i found ++ put x (drop i found) → put x found ≡ insert found (length found) x
put_last x found i le h =
    h ∙ ap (λ zs. take i found ++ put x zs) (drop_all i found le) ∙ ap (λ zs. zs ++ x ∷ []) (take_all i found le)
    ∙ sym (insert_end found x)
