-- From the answer of the comparison to that of the whole.
use Rattle.std.proofs.Common.{◌≡◌, not, Bool, true, false, Option, Some, None, is_some, Result, Ok, Err, IfOk, refl}
use Rattle.std.specs.Prelude.{IsTrue}
use Rattle.java_tree.specs.declared.fault.NoMemory.{NoMemory}

pub none_holds : {A : Type 0} (o : Option A) (r : Bool) → is_some o ≡ not r → r ≡ true → o ≡ None
none_holds None r is h = refl
none_holds (Some x) true is h = absurd (cc is)
none_holds (Some x) false is h = absurd (cc h)

-- what a true answer says, and what follows from that
pub then_so : {P Q : Type 0} (r : Result Bool NoMemory) → (P → Q) → IfOk r (λ b. IsTrue b → P) → IfOk r (λ b. IsTrue b → Q)
then_so (Ok b) so told = λ holds. so (told holds)
then_so (Err e) so told = told
