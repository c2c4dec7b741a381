-- Values made in a row, of which the first are there already.
use Rattle.std.proofs.Common.{◌≡◌, ℕ, zero, suc, List, [], ◌∷◌, ◌++◌, refl, append_assoc}
use Rattle.std.specs.Prelude.{length, replicate, slice_set}
use Rattle.class_world.specs.declared.world.JavaType.{JavaType}
use Rattle.core_meaning.specs.declared.values.Thing.{Thing}
use Rattle.core_meaning.specs.declared.values.Thing.TheVariants.{Array}
use Rattle.core_meaning.specs.declared.values.Value.{Value}
use Rattle.core_meaning.specs.declared.values.Value.TheVariants as v
use Rattle.core_meaning.specs.State.{with_thing}
use Rattle.core_meaning.specs.Code.{default_value}
use Rattle.core_meaning.specs.declared.values.State.{State}
use Rattle.core_meaning.specs.Outcome.{Outcome, Gives, Threw, Bound, and_then}
use Rattle.core_meaning.specs.Expressions.{repeated, array_with, arrays_of}

abbrev pub behind : List Value → Outcome (List Value) → Outcome (List Value)
behind ys o = and_then o (λ xs s. Gives (ys ++ xs) s)

pub behind_none : (o : Outcome (List Value)) → o ≡ behind [] o
behind_none (Gives xs s) = refl
behind_none (Threw k s) = refl
behind_none (Bound s) = refl

-- one more in front is there
pub behind_more : (a : Value) (ys : List Value) (o : Outcome (List Value)) →
    behind ys (and_then o (λ xs s. Gives (a ∷ xs) s)) ≡ behind (ys ++ a ∷ []) o
behind_more a ys (Gives xs s) = simp append_assoc
behind_more a ys (Threw k s) = refl
behind_more a ys (Bound s) = refl

pub repeated_gives : (n m : ℕ) (one : State → Outcome Value) (s after : State) (a : Value) (ys : List Value) → n ≡ suc m → one s ≡ Gives a after →
    behind ys (repeated n one s) ≡ behind (ys ++ a ∷ []) (repeated m one after)
repeated_gives n m one s after a ys e h = rw (e, h) (behind_more a ys (repeated m one after))

-- first values in a row change nothing
pub repeated_first : (n : ℕ) (t : JavaType) (s : State) → repeated n (arrays_of [] t) s ≡ Gives (replicate n (default_value t)) s
repeated_first zero t s = refl
repeated_first (suc n) t s = rw (repeated_first n t s) refl

pub set_last : (xs : List Thing) (x : Thing) → slice_set (xs ++ x ∷ []) (length xs) x ≡ xs ++ x ∷ []
set_last [] x = refl
set_last (y ∷ ys) x = let e = set_last ys x in cc

-- an array of first values is as it was made
pub first_array : (n : ℕ) (t : JavaType) (s : State) →
    array_with t n (repeated n (arrays_of [] t)) s ≡ Gives (v.Ref (length s.heap)) (with_thing (Array t (replicate n (default_value t))) s)
first_array n t s =
    rw (repeated_first n t (with_thing (Array t (replicate n (default_value t))) s))
    (rw (set_last s.heap (Array t (replicate n (default_value t)))) refl)
