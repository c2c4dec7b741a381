-- The last item of a list, and the items of lists that are made of others.
use Rattle.std.proofs.Common.{◌≡◌, ℕ, ◌+◌, ◌<◌, ◌≤◌, ◌-◌, List, [], ◌∷◌, ◌++◌, append_assoc, drop, length, map, get_or, Some, slice_get, refl, sym, ap, ◌∙◌, sub-one, arith}
use Rattle.std.specs.Prelude.{slice_index_or}
use Rattle.std.specs.Option.{option_map}
use Rattle.std.proofs.lemmas.List.{drop_more}
use Rattle.std.proofs.lemmas.Option.{slice_get-map, slice_get_read}
use Rattle.java_core.specs.declared.written.CoreType.{CoreType}
use Rattle.unchecked_ops.specs.declared.program.Operation.{Operation}
use Rattle.extract_interface.specs.Plans.{last_of}

pub last_is : (ts : List CoreType) → slice_get ts (length ts - 1) ≡ last_of ts
last_is [] = refl
last_is (t ∷ []) = refl
last_is (t ∷ u ∷ us) = let rest = last_is (u ∷ us) in rw sub-one (rw sub-one at rest)

pub map_at : {A B : Type 0} (f : A → B) (xs : List A) (k : ℕ) (x : A) → k < length xs → x ≡ get_or xs k x → slice_get (map f xs) k ≡ Some (f x)
map_at f xs k x low is = slice_get-map f xs k ∙ ap (option_map f) (slice_get_read xs (length xs) k x refl low is)

pub first_of : (os : List Operation) (d : Operation) → 1 ≤ length os → (x : Operation) × (xs : List Operation) × (os ≡ x ∷ xs) × (x.node.id ≡ (slice_index_or os 0 d).node.id)
first_of [] d more = absurd (omega (arith, more))
first_of (x ∷ xs) d more = (x, xs, refl, refl)

-- the items so far and then the rest, with a copy of the next one
pub next_copied : {A : Type 0} (xs before copies all : List A) (k : ℕ) (x copy : A) → k < length xs → x ≡ get_or xs k x → copy ≡ x → copies ≡ before ++ copy ∷ [] → before ++ drop k xs ≡ all → copies ++ drop (k + 1) xs ≡ all
next_copied xs before copies all k x copy low is same push so =
    let rest = drop (k + 1) xs in
    let left : copy ∷ rest ≡ drop k xs = ap (λ y. y ∷ rest) (same ∙ is) ∙ sym (drop_more xs k x low) in
    ap (λ ys. ys ++ rest) push ∙ append_assoc before (copy ∷ []) rest ∙ ap (λ ys. before ++ ys) left ∙ so
