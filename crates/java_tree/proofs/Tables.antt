-- Laws of tables of names.
use mathlib.Core.Logic.{◌⊎◌, inl, inr}
use Rattle.std.proofs.Common.{◌≡◌, ◌≢◌, ◌<◌, ◌≤◌, ℕ, zero, suc, ◌+◌, Bool, true, false, cond, not, ◌&&◌, ◌||◌, nat_lt, List, [], ◌∷◌, ◌++◌, length, map, position, slice_get, Some, None, refl, sym, ap, ◌∙◌, arith, subst, length-append, Bor, get_or, drop, fold, add-one}
use Rattle.std.proofs.lemmas.List.{map-append, length-map}
use Rattle.std.proofs.Math.Seq.{drop-cons}
use Rattle.std.proofs.lemmas.Slice.Eq.{bytes_eq-Decides}
use Rattle.std.proofs.lemmas.Bool.Decides.{nat_tests}
use Rattle.std.specs.List.{position_or_len, list_any, AllByRecursion, IsDistinct}
use Rattle.std.specs.Str.{bytes_eq}
use Rattle.std.specs.String.{string_bytes, string_eq}
use Rattle.std.specs.declared.string.String.{String}
use Rattle.std.specs.declared.alloc.Global.{Global}
use Rattle.java_tree.specs.Names.{number_of, with_text, IsFront, AreDistinct, IsTable, built_in_names}

same : (x y : List ℕ) → bytes_eq x y ≡ true → x ≡ y
same x y e = grind (arith, bytes_eq-Decides x y)

itself : (x : List ℕ) → bytes_eq x x ≡ true
itself x = (bytes_eq-Decides x x).1 refl

-- ---- a text is in the table, or is not

pub record IsKnown (text : List ℕ) (names : List (List ℕ)) : Type 0 where
  pub within : number_of text names < length names
  pub given : slice_get names (number_of text names) ≡ Some text
  pub any : list_any (bytes_eq text) names ≡ true

pub record IsNew (text : List ℕ) (names : List (List ℕ)) : Type 0 where
  pub number : number_of text names ≡ length names
  pub never : (n : ℕ) → slice_get names n ≢ Some text
  pub any : list_any (bytes_eq text) names ≡ false

pub known_or_new : (text : List ℕ) (names : List (List ℕ)) → IsKnown text names ⊎ IsNew text names
known_or_new text [] = inr (record { number = refl; never = λ n e. absurd (cc); any = refl })
known_or_new text (x ∷ xs) = by_test _ refl (known_or_new text xs)
  where
    by_test : (b : Bool) → bytes_eq text x ≡ b → IsKnown text xs ⊎ IsNew text xs → IsKnown text (x ∷ xs) ⊎ IsNew text (x ∷ xs)
    by_test true e p = inl (record { within = rw e (omega arith); given = rw e (ap Some (sym (same text x e))); any = rw e refl })
    by_test false e (inl p) =
        let next : 1 + number_of text xs ≡ suc (number_of text xs) = omega arith in
        inl (record { within = rw e (omega (arith, p.within)); given = rw (e, next) p.given; any = rw e p.any })
    by_test false e (inr p) =
        inr (record { number = rw e (omega (arith, p.number)); never = later; any = rw e p.any })
      where
        later : (n : ℕ) → slice_get (x ∷ xs) n ≢ Some text
        later zero d = let is : x ≡ text = cc in let yes : bytes_eq text x ≡ true = rw is (itself text) in cc
        later (suc n) d = p.never n d

-- ---- the last of a longer table

at_end : {X : Type 0} (xs : List X) (x : X) → slice_get (xs ++ x ∷ []) (length xs) ≡ Some x
at_end [] x = refl
at_end (y ∷ ys) x = at_end ys x

stays : {X : Type 0} (xs : List X) (x y : X) (n : ℕ) → slice_get xs n ≡ Some y → slice_get (xs ++ x ∷ []) n ≡ Some y
stays [] x y n e = absurd (cc)
stays (z ∷ zs) x y zero e = e
stays (z ∷ zs) x y (suc n) e = stays zs x y n e

-- what stands in the longer table stood in the shorter one, or is the last
stood : {X : Type 0} (xs : List X) (x y : X) (n : ℕ) → slice_get (xs ++ x ∷ []) n ≡ Some y → (slice_get xs n ≡ Some y) ⊎ ((n ≡ length xs) × (x ≡ y))
stood [] x y zero e = inr (refl, cc)
stood [] x y (suc n) e = absurd (cc)
stood (z ∷ zs) x y zero e = inl e
stood (z ∷ zs) x y (suc n) e = elim (stood zs x y n e) [ inl p ↦ inl p | inr p ↦ inr (ap suc p.0, p.1) ]

-- ---- a table with a text

pub given : (text : List ℕ) (names : List (List ℕ)) → slice_get (with_text text names) (number_of text names) ≡ Some text
given text names = elim (known_or_new text names) [ inl p ↦ rw p.any p.given | inr p ↦ rw (p.any, p.number) (at_end names text) ]

pub kept : (text : List ℕ) (names : List (List ℕ)) → IsFront names (with_text text names)
kept text names n x e = elim (known_or_new text names) [ inl p ↦ rw p.any e | inr p ↦ rw p.any (stays names text x n e) ]

-- the numbers below the longer table's length are those of the shorter one and at most one more
pub length_with_text : (text : List ℕ) (names : List (List ℕ)) → length (with_text text names) ≤ length names + 1
length_with_text text names = elim (known_or_new text names) [ inl p ↦ rw p.any (omega arith) | inr p ↦ rw p.any (omega (arith, length-append {A = List ℕ})) ]

pub with_text_distinct : (text : List ℕ) (names : List (List ℕ)) → AreDistinct names → AreDistinct (with_text text names)
with_text_distinct text names d m n x a b =
    elim (known_or_new text names) [
      | inl p ↦ d m n x (rw p.any at a) (rw p.any at b)
      | inr p ↦ by_place p (stood names text x m (rw p.any at a)) (stood names text x n (rw p.any at b))
    ]
  where
    by_place : IsNew text names → (slice_get names m ≡ Some x) ⊎ ((m ≡ length names) × (text ≡ x)) → (slice_get names n ≡ Some x) ⊎ ((n ≡ length names) × (text ≡ x)) → m ≡ n
    by_place p (inl u) (inl v) = d m n x u v
    by_place p (inl u) (inr v) = absurd (p.never m (u ∙ ap Some (sym v.1)))
    by_place p (inr u) (inl v) = absurd (p.never n (v ∙ ap Some (sym u.1)))
    by_place p (inr u) (inr v) = u.0 ∙ sym v.0

-- ---- fronts

pub front_itself : (names : List (List ℕ)) → IsFront names names
front_itself names n x e = e

pub front_of_front : (a b c : List (List ℕ)) → IsFront a b → IsFront b c → IsFront a c
front_of_front a b c p q n x e = q n x (p n x e)

-- ---- the built-in names are distinct, by a test

differ : List (List ℕ) → Bool
differ [] = true
differ (x ∷ xs) = not (list_any (bytes_eq x) xs) && differ xs

both : (a b : Bool) → (not a && b) ≡ true → (a ≡ false) × (b ≡ true)
both true b e = absurd (cc)
both false b e = (refl, e)

not_later : (x : List ℕ) (xs : List (List ℕ)) (n : ℕ) → list_any (bytes_eq x) xs ≡ false → slice_get xs n ≢ Some x
not_later x xs n e = elim (known_or_new x xs) [ inl p ↦ (let one = p.any in absurd (cc)) | inr p ↦ p.never n ]

differ-distinct : (names : List (List ℕ)) → differ names ≡ true → AreDistinct names
unfolding differ
differ-distinct [] e m n x a b = absurd (cc)
differ-distinct (y ∷ ys) e zero zero x a b = refl
differ-distinct (y ∷ ys) e zero (suc n) x a b = absurd (not_later y ys n (both _ _ e).0 (b ∙ sym a))
differ-distinct (y ∷ ys) e (suc m) zero x a b = absurd (not_later y ys m (both _ _ e).0 (a ∙ sym b))
differ-distinct (y ∷ ys) e (suc m) (suc n) x a b = ap suc (differ-distinct ys (both _ _ e).1 m n x a b)

built_in_differ : differ built_in_names ≡ true
unfolding differ
built_in_differ = refl

-- ---- tables of a program

pub with_text_table : (text : List ℕ) (names : List (List ℕ)) → IsTable names → IsTable (with_text text names)
with_text_table text names p = record {
  distinct = with_text_distinct text names p.distinct;
  built_in = front_of_front built_in_names names (with_text text names) p.built_in (kept text names);
}

pub built_in_table : IsTable built_in_names
built_in_table = record { distinct = differ-distinct built_in_names built_in_differ; built_in = front_itself built_in_names }

-- ---- a table with several texts, one at a time

abbrev with_texts : List (List ℕ) → List (Bor (List ℕ)) → List (List ℕ)
with_texts names texts = fold (λ names t. with_text t.now names) names texts

pub one_more : (names : List (List ℕ)) (texts : List (Bor (List ℕ))) (i : ℕ) (d : Bor (List ℕ)) → i < length texts
    → with_texts (with_text (get_or texts i d).now names) (drop (i + 1) texts) ≡ with_texts names (drop i texts)
one_more names texts i d h = rw (drop-cons texts i d h, add-one) refl

-- ---- what the set of texts says

-- where the test of a search passes first
pub record IsFound (text : List ℕ) (names : List (List ℕ)) (at : ℕ) : Type 0 where
  pub number : at ≡ number_of text names
  pub given : slice_get names at ≡ Some text
  pub table : names ≡ with_text text names

module _ (text : List ℕ) where
  abbrev is_text : String Global → Bool
  is_text k = bytes_eq text (string_bytes k)

  place-map : (ks : List (String Global)) → position_or_len (bytes_eq text) (map string_bytes ks) ≡ position_or_len is_text ks
  place-map [] = refl
  place-map (k ∷ ks) = ap (λ n. cond (not (is_text k)) (1 + n) 0) (place-map ks)

  any-map : (ks : List (String Global)) → list_any (bytes_eq text) (map string_bytes ks) ≡ list_any is_text ks
  any-map [] = refl
  any-map (k ∷ ks) = ap (λ b. is_text k || b) (any-map ks)

  position-map : (ks : List (String Global)) → position (bytes_eq text) (map string_bytes ks) ≡ position is_text ks
  position-map ks = rw (place-map ks, length-map) refl

  position_known : (names : List (List ℕ)) → IsKnown text names → position (bytes_eq text) names ≡ Some (number_of text names)
  position_known names p = let test : nat_lt (number_of text names) (length names) ≡ true = grind (arith, nat_tests, p.within) in rw test refl

  position_new : (names : List (List ℕ)) → IsNew text names → position (bytes_eq text) names ≡ None
  position_new names p = let test : nat_lt (number_of text names) (length names) ≡ false = grind (arith, nat_tests, p.number) in rw test refl

  pub found : (ks : List (String Global)) (at : ℕ) → Some at ≡ position is_text ks → IsFound text (map string_bytes ks) at
  found ks at e = by_case (known_or_new text (map string_bytes ks))
    where
      by_case : IsKnown text (map string_bytes ks) ⊎ IsNew text (map string_bytes ks) → IsFound text (map string_bytes ks) at
      by_case (inl p) =
          let first = position_known (map string_bytes ks) p in
          let moved = position-map ks in
          let is : at ≡ number_of text (map string_bytes ks) = cc in
          record { number = is; given = rw is p.given; table = rw p.any refl }
      by_case (inr p) = let none = position_new (map string_bytes ks) p in let moved = position-map ks in absurd (cc)

  pub absent : (ks : List (String Global)) → None ≡ position is_text ks → IsNew text (map string_bytes ks)
  absent ks e =
      elim (known_or_new text (map string_bytes ks)) [
        | inl p ↦ (let first = position_known (map string_bytes ks) p in let moved = position-map ks in absurd (cc))
        | inr p ↦ p
      ]

  -- a new text goes last
  pub inserted : (ks : List (String Global)) (k : String Global) (keys : List (String Global)) → IsNew text (map string_bytes ks) → string_bytes k ≡ text
      → keys ≡ cond (list_any (string_eq k) ks) ks (ks ++ k ∷ []) → map string_bytes keys ≡ with_text text (map string_bytes ks)
  inserted ks k keys p is keys_are =
      let new : list_any is_text ks ≡ false = sym (any-map ks) ∙ p.any in
      let test : list_any (string_eq k) ks ≡ false = subst (λ t. list_any (λ q. bytes_eq t (string_bytes q)) ks ≡ false) (sym is) new in
      rw (keys_are, test, p.any, map-append, is) refl

-- no text is in the set twice
not_again : (x : String Global) (xs : List (String Global)) (n : ℕ) → AllByRecursion (λ y. string_eq x y ≡ false) xs → slice_get (map string_bytes xs) n ≢ Some (string_bytes x)
not_again x [] n a e = absurd (cc)
not_again x (y ∷ ys) zero a e =
    let is : string_bytes x ≡ string_bytes y = cc in
    let equal : string_eq x y ≡ true = (bytes_eq-Decides (string_bytes x) (string_bytes y)).1 is in
    let other = a.0 in
    cc
not_again x (y ∷ ys) (suc n) a e = not_again x ys n a.1 e

pub distinct : (ks : List (String Global)) → IsDistinct string_eq ks → AreDistinct (map string_bytes ks)
unfolding IsDistinct
distinct [] d m n x a b = absurd (cc)
distinct (k ∷ ks) d zero zero x a b = refl
distinct (k ∷ ks) d zero (suc n) x a b = absurd (not_again k ks n d.0 (b ∙ sym a))
distinct (k ∷ ks) d (suc m) zero x a b = absurd (not_again k ks m d.0 (a ∙ sym b))
distinct (k ∷ ks) d (suc m) (suc n) x a b = ap suc (distinct ks d.1 m n x a b)
