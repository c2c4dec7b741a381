-- Elements of a list, by their places.
use Rattle.std.proofs.Common.{◌≡◌, ℕ, ◌<◌, ◌≤◌, List, Some, true, nat_eq, ap, ◌∙◌, subst, length, get_or, arith}
use Rattle.std.specs.Prelude.{slice_get}
use Rattle.std.specs.List.{Contains}
use Rattle.std.proofs.lemmas.Option.{slice_get_within, slice_get-get_or, get_or_from_slice_get}

-- an element of a list has a place
pub contains_at : {A : Type 0} (xs : List A) (x : A) → Contains xs x → (k : ℕ) × (slice_get xs k ≡ Some x)
contains_at xs x (k, lt, is) = (k, slice_get-get_or xs k x lt ∙ ap (λ y. Some y) is)

pub at_contains : {A : Type 0} (xs : List A) (k : ℕ) (x : A) → slice_get xs k ≡ Some x → Contains xs x
at_contains xs k x at = (k, slice_get_within xs k x at, get_or_from_slice_get xs k x x at)

-- what is so at each place is so of each element
pub each_in : (P : ℕ → Type 0) (xs : List ℕ) (i : ℕ) → length xs ≤ i → ((j : ℕ) → j < i → P (get_or xs j 0)) → (k : ℕ) → Contains xs k → P k
each_in P xs i past each k has =
    let at = contains_at xs k has in
    let lt = slice_get_within xs at.0 k at.1 in
    subst P (get_or_from_slice_get xs at.0 k 0 at.1) (each at.0 (omega (arith, lt, past)))

pub from_test : (a b : ℕ) → nat_eq a b ≡ true → a ≡ b
from_test a b h = grind (arith, h)
