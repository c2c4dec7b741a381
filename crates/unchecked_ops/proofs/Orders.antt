-- A test has one answer.
use Rattle.std.proofs.Common.{◌≡◌, Bool, true, false, Result, Ok, Err, ◌↔◌, refl, sym}
use Rattle.std.specs.Prelude.{IfOk, IsTrue}

pub same_test : (a b : Bool) (P : Type 0) → (IsTrue a ↔ P) → (IsTrue b ↔ P) → a ≡ b
same_test true true P h k = refl
same_test false false P h k = refl
same_test true false P h k = sym (k.1 (h.0 refl))
same_test false true P h k = h.1 (k.0 refl)

pub told_as : {E : Type 0} (r : Result Bool E) (b : Bool) (P : Type 0) → (IsTrue b ↔ P) → IfOk r (λ a. IsTrue a ↔ P) → IfOk r (λ a. a ≡ b)
told_as (Ok a) b P k h = same_test a b P h k
told_as (Err e) b P k h = h
