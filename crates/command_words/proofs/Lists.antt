-- Lists of words.
use Rattle.std.proofs.Common.{◌≡◌, ℕ, zero, suc, ◌+◌, Bool, true, false, ◌||◌, List, [], ◌∷◌, ◌++◌, ◌⊎◌, inl, inr, Some, slice_get, IsTrue, ◌↔◌, refl, sym, ap, ◌∙◌, arith, subst}
use Rattle.std.specs.List.{list_any}
use Rattle.std.specs.Str.{bytes_eq}
use Rattle.std.proofs.lemmas.Slice.Eq.{bytes_eq-Decides}
use Rattle.std.proofs.lemmas.List.Folds.{list_any-append}
use Rattle.command_words.specs.Names.{is_among}
use Rattle.command_words.specs.Rules.{Each}
use Rattle.command_words.specs.Scan.{AllFrom}

pub same : (x y : List ℕ) → bytes_eq x y ≡ true → x ≡ y
same x y e = (bytes_eq-Decides x y).0 e

pub itself : (x : List ℕ) → bytes_eq x x ≡ true
itself x = (bytes_eq-Decides x x).1 refl

pub turned : (v w : List ℕ) → bytes_eq v w ≡ bytes_eq w v
turned v w = by_test (bytes_eq v w) (bytes_eq w v) refl refl
  where
    by_test : (a b : Bool) → bytes_eq v w ≡ a → bytes_eq w v ≡ b → a ≡ b
    by_test true true e f = refl
    by_test false false e f = refl
    by_test true false e f = let is : v ≡ w = same v w e in let t = (bytes_eq-Decides w v).1 (sym is) in cc
    by_test false true e f = let is : w ≡ v = same w v f in let t = (bytes_eq-Decides v w).1 (sym is) in cc

pub any_turned : (w : List ℕ) (ks : List (List ℕ)) → list_any (λ k. bytes_eq k w) ks ≡ list_any (bytes_eq w) ks
any_turned w [] = refl
any_turned w (k ∷ ks) = rw (turned k w, any_turned w ks) refl

-- ---- words at their places

each_from : (P : ℕ → List ℕ → Type 0) (k : ℕ) (ws : List (List ℕ)) → AllFrom P k ws → (i : ℕ) (w : List ℕ) → slice_get ws i ≡ Some w → P (k + i) w
each_from P k [] h i w e = absurd (cc)
each_from P k (x ∷ xs) h zero w e =
    let is : x ≡ w = cc in
    let at : k ≡ k + 0 = omega arith in
    subst (λ n. P n w) at (subst (P k) is h.0)
each_from P k (x ∷ xs) h (suc i) w e =
    let at : k + 1 + i ≡ k + suc i = omega arith in
    subst (λ n. P n w) at (each_from P (k + 1) xs h.1 i w e)

from_each : (P : ℕ → List ℕ → Type 0) (k : ℕ) (ws : List (List ℕ)) → ((i : ℕ) (w : List ℕ) → slice_get ws i ≡ Some w → P (k + i) w) → AllFrom P k ws
from_each P k [] f = tt
from_each P k (x ∷ xs) f =
    let first : k + 0 ≡ k = omega arith in
    (subst (λ n. P n x) first (f 0 x refl), from_each P (k + 1) xs (λ i w e. let at : k + suc i ≡ k + 1 + i = omega arith in subst (λ n. P n w) at (f (suc i) w e)))

pub each_is : (P : ℕ → List ℕ → Type 0) (ws : List (List ℕ)) → AllFrom P 0 ws ↔ Each P ws
each_is P ws = (
  λ h i w e. let at : 0 + i ≡ i = omega arith in subst (λ n. P n w) at (each_from P 0 ws h i w e),
  λ f. from_each P 0 ws (λ i w e. let at : i ≡ 0 + i = omega arith in subst (λ n. P n w) at (f i w e)),
)

-- ---- each word, wherever it stands

pub all_among : (P : List ℕ → Type 0) (k : ℕ) (ws : List (List ℕ)) → AllFrom (λ i. P) k ws → (w : List ℕ) → IsTrue (is_among w ws) → P w
all_among P k [] h w e = absurd (cc)
all_among P k (x ∷ xs) h w e = by_test (all_among P (k + 1) xs h.1 w) (bytes_eq w x) refl e
  where
    by_test : (IsTrue (is_among w xs) → P w) → (t : Bool) → bytes_eq w x ≡ t → IsTrue (t || is_among w xs) → P w
    by_test later true t r = subst P (sym (same w x t)) h.0
    by_test later false t r = later r

pub or_later : (a b : Bool) → IsTrue b → IsTrue (a || b)
or_later true b e = refl
or_later false b e = e

pub first_among : (x : List ℕ) (xs : List (List ℕ)) → IsTrue (is_among x (x ∷ xs))
first_among x xs = rw (itself x) refl

pub among_all : (P : List ℕ → Type 0) (k : ℕ) (ws : List (List ℕ)) → ((w : List ℕ) → IsTrue (is_among w ws) → P w) → AllFrom (λ i. P) k ws
among_all P k [] f = tt
among_all P k (x ∷ xs) f = (f x (first_among x xs), among_all P (k + 1) xs (λ w e. f w (or_later (bytes_eq w x) (is_among w xs) e)))

pub among_front : (w : List ℕ) (xs ys : List (List ℕ)) → IsTrue (is_among w xs) → IsTrue (is_among w (xs ++ ys))
among_front w xs ys e = rw (list_any-append (bytes_eq w) xs ys, e) refl

pub among_back : (w : List ℕ) (xs ys : List (List ℕ)) → IsTrue (is_among w ys) → IsTrue (is_among w (xs ++ ys))
among_back w xs ys e = rw (list_any-append (bytes_eq w) xs ys) (or_later (is_among w xs) (is_among w ys) e)

pub among_either : (w : List ℕ) (xs ys : List (List ℕ)) → IsTrue (is_among w (xs ++ ys)) → IsTrue (is_among w xs) ⊎ IsTrue (is_among w ys)
among_either w xs ys e = by_test (is_among w xs) (is_among w ys) refl refl (sym (list_any-append (bytes_eq w) xs ys) ∙ e)
  where
    by_test : (a b : Bool) → is_among w xs ≡ a → is_among w ys ≡ b → IsTrue (is_among w xs || is_among w ys) → IsTrue (is_among w xs) ⊎ IsTrue (is_among w ys)
    by_test true b e f g = inl e
    by_test false true e f g = inr f
    by_test false false e f g = absurd (let no : false ≡ true = subst (λ t. IsTrue (t || false)) e (subst (λ t. IsTrue (is_among w xs || t)) f g) in cc)

pub all_both : (P : List ℕ → Type 0) (xs ys : List (List ℕ)) → (AllFrom (λ i. P) 0 xs × AllFrom (λ i. P) 0 ys) ↔ ((w : List ℕ) → IsTrue (is_among w (xs ++ ys)) → P w)
all_both P xs ys = (
  λ h w e. elim (among_either w xs ys e) [ inl a ↦ all_among P 0 xs h.0 w a | inr b ↦ all_among P 0 ys h.1 w b ],
  λ f. (among_all P 0 xs (λ w e. f w (among_front w xs ys e)), among_all P 0 ys (λ w e. f w (among_back w xs ys e))),
)

pub place_among : (w : List ℕ) (ws : List (List ℕ)) → IsTrue (is_among w ws) → (i : ℕ) × (slice_get ws i ≡ Some w)
place_among w [] e = absurd (cc)
place_among w (x ∷ xs) e = by_test (place_among w xs) (bytes_eq w x) refl e
  where
    by_test : (IsTrue (is_among w xs) → (i : ℕ) × (slice_get xs i ≡ Some w)) → (t : Bool) → bytes_eq w x ≡ t → IsTrue (t || is_among w xs) → (i : ℕ) × (slice_get (x ∷ xs) i ≡ Some w)
    by_test later true t r = (0, ap Some (sym (same w x t)))
    by_test later false t r = let p = later r in (suc p.0, p.1)

pub among_place : (w : List ℕ) (ws : List (List ℕ)) (i : ℕ) → slice_get ws i ≡ Some w → IsTrue (is_among w ws)
among_place w [] i e = absurd (cc)
among_place w (x ∷ xs) zero e = let is : x ≡ w = cc in subst (λ v. IsTrue (is_among w (v ∷ xs))) (sym is) (first_among w xs)
among_place w (x ∷ xs) (suc i) e = or_later (bytes_eq w x) (is_among w xs) (among_place w xs i e)

-- each of the words, by place and by itself
pub each_among : (P : List ℕ → Type 0) (ws : List (List ℕ)) → ((w : List ℕ) → IsTrue (is_among w ws) → P w) ↔ Each (λ i w. P w) ws
each_among P ws = (λ f i w e. f w (among_place w ws i e), λ f w e. let p = place_among w ws e in f p.0 w p.1)
