-- Places in lists that grow.
use Rattle.std.proofs.Common.{◌≡◌, ℕ, ◌+◌, ◌<◌, Bool, true, false, List, [], ◌∷◌, ◌++◌, Option, Some, None, length, take, get_or, refl, sym, ap, ◌∙◌, add-one, arith}
use Rattle.std.proofs.lemmas.Grind.{common_steps}
use Rattle.running_code.specs.declared.places.Places.{Places}
use Rattle.std.specs.Prelude.{◌==◌, if◌then◌else◌}
use Rattle.std.specs.Option.{option_map, option_or}
use Rattle.running_code.specs.Places.{ArePlaces, IsPut, only_at, place_in}

abbrev next : Option ℕ → Option ℕ
next o = option_map (λ i. i + 1) o

first_alone : (b : Bool) → (if b then Some 0 else next None) ≡ (if b then Some 0 else None)
first_alone true = refl
first_alone false = refl

only_next : (b : Bool) (n : ℕ) → next (if b then Some n else None) ≡ (if b then Some (n + 1) else None)
only_next true n = refl
only_next false n = refl

or_next : (b : Bool) (n : ℕ) (o : Option ℕ) → next (option_or o (if b then Some n else None)) ≡ option_or (next o) (if b then Some (n + 1) else None)
or_next b n None = only_next b n
or_next b n (Some i) = refl

behind_one : (a b : Bool) (n : ℕ) (o p : Option ℕ) → p ≡ option_or o (if b then Some n else None)
    → (if a then Some 0 else next p) ≡ option_or (if a then Some 0 else next o) (if b then Some (n + 1) else None)
behind_one true b n o p is = refl
behind_one false b n o p is = ap next is ∙ or_next b n o

-- a number behind others
pub place_behind : (k x : ℕ) (xs : List ℕ) → place_in k (xs ++ x ∷ []) ≡ option_or (place_in k xs) (only_at x (length xs) k)
place_behind k x [] = first_alone (x == k)
place_behind k x (y ∷ ys) = rw (← add-one (length ys)) (behind_one (y == k) (x == k) (length ys) (place_in k ys) (place_in k (ys ++ x ∷ [])) (place_behind k x ys))

pub place_more : (k i : ℕ) (xs : List ℕ) → i < length xs → place_in k (take (i + 1) xs) ≡ option_or (place_in k (take i xs)) (only_at (get_or xs i 0) i k)
place_more k i xs low =
    ap (place_in k) (take_more i xs low) ∙ place_behind k (get_or xs i 0) (take i xs)
    ∙ ap (λ n. option_or (place_in k (take i xs)) (only_at (get_or xs i 0) n k)) (taken i xs low)
  where
    take_more : (i : ℕ) (xs : List ℕ) → i < length xs → take (i + 1) xs ≡ take i xs ++ get_or xs i 0 ∷ []
    take_more i xs low = grind (arith, common_steps)

    taken : (i : ℕ) (xs : List ℕ) → i < length xs → length (take i xs) ≡ i
    taken i xs low = grind (arith, common_steps)

-- the table with one more number
pub kept : (i : ℕ) (xs : List ℕ) (old new : Places) → i < length xs → ArePlaces old (take i xs) → IsPut old new (get_or xs i 0) i → ArePlaces new (take (i + 1) xs)
kept i xs old new low are put k = put k ∙ ap (λ o. option_or o (only_at (get_or xs i 0) i k)) (are k) ∙ sym (place_more k i xs low)
