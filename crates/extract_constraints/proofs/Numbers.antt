-- Walks over lists, by their next item.
use Rattle.std.proofs.Common.{◌≡◌, ℕ, ◌+◌, ◌<◌, Bool, true, false, cond, List, [], ◌∷◌, ◌++◌, length, drop, refl, sym, ap, ◌∙◌}
use Rattle.std.specs.Prelude.{◌==◌, filter, slice_index_or as get_or}
use Rattle.std.proofs.lemmas.List.{append-nil}
use Rattle.class_world.proofs.Places.{empty_yes}
use Rattle.member_uses.proofs.Steps.{filter_step}
use Rattle.type_constraints.proofs.Steps.{front}

-- what a walk g over the rest of a list of numbers makes of a state is what it makes of the state behind the first of them, of which h makes it
pub step_number : {S : Type 0} (g : List ℕ → S → S) (h : ℕ → S → S) → ((x : ℕ) (xs : List ℕ) (s : S) → g (x ∷ xs) s ≡ g xs (h x s))
    → (ks : List ℕ) (i : ℕ) (now next whole : S) → i < length ks → next ≡ h (get_or ks i 0) now → g (drop i ks) now ≡ whole
    → g (drop (i + 1) ks) next ≡ whole
step_number g h begins ks i now next whole low made so_far =
    let rest = drop (i + 1) ks in
    ap (g rest) made ∙ sym (ap (λ ks. g ks now) (front ks i low) ∙ begins (get_or ks i 0) rest now) ∙ so_far

put_if : (b : Bool) (m : ℕ) (ks : List ℕ) → cond b (ks ++ (m ∷ [])) ks ≡ ks ++ cond b (m ∷ []) []
put_if true m ks = refl
put_if false m ks = sym (append-nil ks)

-- one more number of those that pass, where it does
pub filter_number : (P : ℕ → Bool) (ks : List ℕ) (i : ℕ) (b : Bool) (done next whole : List ℕ) → i < length ks → b ≡ P (get_or ks i 0)
    → next ≡ cond b (done ++ (get_or ks i 0 ∷ [])) done → done ++ filter P (drop i ks) ≡ whole → next ++ filter P (drop (i + 1) ks) ≡ whole
filter_number P ks i b done next whole low is made so_far =
    filter_step P ks i done next whole low (made ∙ put_if b (get_or ks i 0) done ∙ ap (λ b. done ++ cond b (get_or ks i 0 ∷ []) []) is) so_far

-- what is said of a list by whether it is empty, as its length tells
pub none_of : {X S : Type 0} (F : List X → S) (xs : List X) → true ≡ (length xs == 0) → F xs ≡ F []
none_of F xs is = ap F (empty_yes xs is)

pub some_of : {X S : Type 0} (F : List X → S) (whole : S) → ((x : X) (xs : List X) → F (x ∷ xs) ≡ whole) → (xs : List X) → false ≡ (length xs == 0) → F xs ≡ whole
some_of F whole begins [] is = cc is
some_of F whole begins (x ∷ xs) is = begins x xs
