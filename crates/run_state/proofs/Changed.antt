-- A change of one thing in the heap is a write to its place.
use Rattle.std.proofs.Common.{◌≡◌, ℕ, zero, suc, ◌≤◌, List, [], ◌∷◌, length, Some, refl, arith}
use Rattle.std.specs.Prelude.{slice_get, slice_set}
use Rattle.core_meaning.specs.declared.values.Thing.{Thing}
use Rattle.core_meaning.specs.State.{changed}

pub changed_set : (f : Thing → Thing) (r : ℕ) (xs : List Thing) (x : Thing) → slice_get xs r ≡ Some x → changed f r xs ≡ slice_set xs r (f x)
changed_set f r [] x h = cc
changed_set f zero (y ∷ ys) x h = cc
changed_set f (suc r) (y ∷ ys) x h = let e = changed_set f r ys x h in cc

pub changed_past : (f : Thing → Thing) (r : ℕ) (xs : List Thing) → length xs ≤ r → changed f r xs ≡ xs
changed_past f r [] h = refl
changed_past f zero (y ∷ ys) h = absurd (omega arith)
changed_past f (suc r) (y ∷ ys) h = let e = changed_past f r ys (omega arith) in cc
