-- Lists that are made from the rows of a table, one by one.
use Rattle.std.proofs.Common.{◌≡◌, ℕ, ◌+◌, ◌<◌, ◌≤◌, ◌==◌, true, false, if◌then◌else◌, List, [], ◌∷◌, ◌++◌, map, drop, get_or, length, slice_get, zero, suc, Option, Some, None, inl, inr, subst, refl, sym, ap, ◌∙◌, arith}
use Rattle.std.proofs.lemmas.Bool.{cases_lt}
use Rattle.std.proofs.lemmas.Bool.Decides.{nat_tests}
use Rattle.std.proofs.lemmas.List.{drop_more, drop_all, append_assoc}
use Rattle.java_tree.specs.declared.tree.Name.{Name}
use Rattle.java_tree.specs.Names.{IsFront, with_text}
use Rattle.class_world.specs.declared.world.TypeInfo.{TypeInfo}
use Rattle.built_in_types.specs.declared.words.Words.{Words}
use Rattle.built_in_types.specs.declared.rows.Row.{Row}
use Rattle.built_in_types.specs.BuiltIns.{owned_from, type_info, types_from, with_texts}

pub pushed : {A : Type 0} (xs ys zs : List A) (x : A) → ys ≡ xs ++ x ∷ [] → ys ++ zs ≡ xs ++ x ∷ zs
pushed xs ys zs x e = ap (λ l. l ++ zs) e ∙ append_assoc xs (x ∷ []) zs

-- one more of a list that a function makes
pub mapped_more : {A B : Type 0} (f : A → B) (rows : List A) (xs ys : List B) (i : ℕ) (d : A) (x : B) → i < length rows → ys ≡ xs ++ x ∷ [] → x ≡ f (get_or rows i d)
    → ys ++ map f (drop (i + 1) rows) ≡ xs ++ map f (drop i rows)
mapped_more f rows xs ys i d x h push is =
    pushed xs ys (map f (drop (i + 1) rows)) x push
    ∙ ap (λ y. xs ++ y ∷ map f (drop (i + 1) rows)) is
    ∙ ap (λ l. xs ++ map f l) (sym (drop_more rows i d h))

-- one more type
pub type_more : (w : Words) (rows : List (Option ℕ)) (xs ys : List TypeInfo) (i : ℕ) (x : TypeInfo) → i < length rows → ys ≡ xs ++ x ∷ [] → x ≡ type_info w i (get_or rows i None)
    → ys ++ types_from w (i + 1) (drop (i + 1) rows) ≡ xs ++ types_from w i (drop i rows)
type_more w rows xs ys i x h push is =
    pushed xs ys (types_from w (i + 1) (drop (i + 1) rows)) x push
    ∙ ap (λ y. xs ++ y ∷ types_from w (i + 1) (drop (i + 1) rows)) is
    ∙ ap (λ l. xs ++ types_from w i l) (sym (drop_more rows i None h))

-- one more row of the type
pub owned_more : (k : ℕ) (rows : List Row) (xs ys : List ℕ) (i : ℕ) (d : Row) → i < length rows → (get_or rows i d).owner ≡ k → ys ≡ xs ++ i ∷ []
    → ys ++ owned_from k (i + 1) (drop (i + 1) rows) ≡ xs ++ owned_from k i (drop i rows)
owned_more k rows xs ys i d h same push =
    let test : ((get_or rows i d).owner == k) ≡ true = grind (arith, nat_tests, same) in
    pushed xs ys (owned_from k (i + 1) (drop (i + 1) rows)) i push
    ∙ ap (λ b. xs ++ (if b then i ∷ owned_from k (i + 1) (drop (i + 1) rows) else owned_from k (i + 1) (drop (i + 1) rows))) (sym test)
    ∙ ap (λ l. xs ++ owned_from k i l) (sym (drop_more rows i d h))

-- and one of another
pub owned_less : (k : ℕ) (rows : List Row) (xs : List ℕ) (i : ℕ) (d : Row) → i < length rows → ((get_or rows i d).owner ≡ k → ⊥)
    → xs ++ owned_from k (i + 1) (drop (i + 1) rows) ≡ xs ++ owned_from k i (drop i rows)
owned_less k rows xs i d h other =
    let test : ((get_or rows i d).owner == k) ≡ false = grind (arith, nat_tests, other) in
    ap (λ b. xs ++ (if b then i ∷ owned_from k (i + 1) (drop (i + 1) rows) else owned_from k (i + 1) (drop (i + 1) rows))) (sym test)
    ∙ ap (λ l. xs ++ owned_from k i l) (sym (drop_more rows i d h))

-- ---- names

stays : {A : Type 0} (xs ys : List A) (k : ℕ) (x : A) → slice_get xs k ≡ Some x → slice_get (xs ++ ys) k ≡ Some x
stays [] ys k x e = absurd (cc e)
stays (y ∷ xs) ys zero x e = e
stays (y ∷ xs) ys (suc k) x e = stays xs ys k x e

at_seam : {A : Type 0} (xs : List A) (x : A) → slice_get (xs ++ x ∷ []) (length xs) ≡ Some x
at_seam [] x = refl
at_seam (y ∷ xs) x = at_seam xs x

-- one more text has its number
pub word_more : (ts old new : List (List ℕ)) (xs ys : List Name) (x : Name) (t : List ℕ) → IsFront old new → ys ≡ xs ++ x ∷ [] → slice_get ts (length xs) ≡ Some t → slice_get new x.0 ≡ Some t
    → ((k : ℕ) (u : List ℕ) → k < length xs → slice_get ts k ≡ Some u → (n : Name) × (slice_get xs k ≡ Some n) × (slice_get old n.0 ≡ Some u))
    → (k : ℕ) (u : List ℕ) → k < length xs + 1 → slice_get ts k ≡ Some u → (n : Name) × (slice_get ys k ≡ Some n) × (slice_get new n.0 ≡ Some u)
word_more ts old new xs ys x t front push at given before k u low e = elim (cases_lt k (length xs)) [
  | inl h ↦ let b = before k u h e in (b.0, subst (λ l. slice_get l k ≡ Some b.0) (sym push) (stays xs (x ∷ []) k b.0 b.1), front b.0.0 u b.2)
  | inr h ↦
      let same : length xs ≡ k = omega (arith, h, low) in (
        x,
        subst (λ l. slice_get l k ≡ Some x) (sym push) (subst (λ j. slice_get (xs ++ x ∷ []) j ≡ Some x) same (at_seam xs x)),
        given ∙ sym (subst (λ j. slice_get ts j ≡ Some t) same at) ∙ e,
      )
]

-- the table with one more text, and then with those behind it
pub interned_more : (ts names : List (List ℕ)) (i : ℕ) → i < length ts → with_texts (drop (i + 1) ts) (with_text (get_or ts i []) names) ≡ with_texts (drop i ts) names
unfolding with_texts
interned_more ts names i h = ap (λ l. with_texts l names) (sym (drop_more ts i [] h))

-- the table with no more texts
pub interned_all : (ts names : List (List ℕ)) (i : ℕ) → length ts ≤ i → with_texts (drop i ts) names ≡ names
unfolding with_texts
interned_all ts names i h = ap (λ l. with_texts l names) (drop_all i ts h)
