-- A slot takes a value: a write to its place, once there are slots up to it.
use Rattle.std.proofs.Common.{◌≡◌, ℕ, zero, suc, ◌<◌, ◌≤◌, List, [], ◌∷◌, ◌++◌, length, Option, Some, None, refl, arith}
use Rattle.std.specs.Prelude.{slice_set}
use Rattle.core_meaning.specs.declared.values.Value.{Value}
use Rattle.core_meaning.specs.State.{with_slot}

pub with_slot_set : (k : ℕ) (a : Value) (xs : List (Option Value)) → k < length xs → with_slot k a xs ≡ slice_set xs k (Some a)
with_slot_set k a [] h = absurd (omega arith)
with_slot_set zero a (x ∷ xs) h = refl
with_slot_set (suc k) a (x ∷ xs) h = let e = with_slot_set k a xs (omega arith) in cc

pub with_slot_grown : (k : ℕ) (a : Value) (xs : List (Option Value)) → length xs ≤ k → with_slot k a (xs ++ None ∷ []) ≡ with_slot k a xs
with_slot_grown zero a [] h = refl
with_slot_grown (suc k) a [] h = refl
with_slot_grown zero a (x ∷ xs) h = absurd (omega arith)
with_slot_grown (suc k) a (x ∷ xs) h = let e = with_slot_grown k a xs (omega arith) in cc
