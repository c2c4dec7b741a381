-- Code that ends as an outcome says, where memory is enough.
use Rattle.std.specs.Prelude.{◌≡◌, ℕ, suc, Bool, true, false, List, IfOk, Result, Ok, Err}
use Rattle.java_tree.specs.declared.fault.NoMemory.{NoMemory}
use Rattle.core_meaning.specs.declared.values.Value.TheVariants as v
use Rattle.core_meaning.specs.declared.values.State.{State}
use Rattle.core_meaning.specs.Outcome.{Outcome, Gives, Threw, Bound}
use Rattle.core_meaning.specs.Members.{literal}
use Rattle.run_state.specs.declared.stop.Stop.{Stop}
use Rattle.run_state.specs.declared.stop.Stop.TheVariants as stop

-- with a value or why there is none, and the state that is then there
abbrev pub Ends : {A : Type 0} → Result A Stop → State → Outcome A → Type 0
Ends (Ok a) new o = o ≡ Gives a new
Ends (Err (stop.Threw k)) new o = o ≡ Threw k new
Ends (Err stop.Bound) new o = o ≡ Bound new
Ends (Err stop.NoMemory) new o = Unit {0}

-- with the number of a thrown object
abbrev pub Throws : {A : Type 0} → Result ℕ NoMemory → State → Outcome A → Type 0
Throws r new o = IfOk r (λ k. o ≡ Threw k new)

-- with the identity of the string of a literal
abbrev pub IsLiteral : Result ℕ NoMemory → State → List ℕ → State → Type 0
IsLiteral r new units old = IfOk r (λ k. literal units old ≡ Gives (v.Text k) new)

-- where a step was left, one less is; else nothing changes
abbrev pub TakesStep : State → Bool → State → Type 0
TakesStep old true new = old ≡ record new { left = suc new.left }
TakesStep old false new = (old.left ≡ 0) × (new ≡ old)
