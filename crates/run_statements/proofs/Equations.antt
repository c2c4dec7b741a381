-- What waits, behind what it waits for, does what the statement says: an equation a form.
use Rattle.std.proofs.Common.{◌≡◌, Bool, List, refl, ap, ◌∙◌}
use Rattle.core_meaning.specs.declared.values.Value.{Value}
use Rattle.core_meaning.specs.declared.values.Value.TheVariants as v
use Rattle.core_meaning.specs.declared.values.Ending.{Ending}
use Rattle.core_meaning.specs.declared.values.State.{State}
use Rattle.core_meaning.specs.Outcome.{Outcome, Threw, and_then, with_reference}
use Rattle.run_frames.specs.declared.focus.Answer.{Answer}
use Rattle.run_frames.specs.Frames.{a_truth, and_ending, and_truth, and_value, and_values, all_valued, ended, valued}
use Rattle.run_frames.proofs.Outcomes.{two_ways}

-- ---- what waits, in general

-- what is done with a value and how it ends, behind the value
pub value_ends : (o : Outcome Value) (h : Value → State → Outcome Ending) → and_value (valued o) (λ a s. ended (h a s)) ≡ ended (and_then o h)
value_ends o h = two_ways o _ _ _ _ (λ a s. refl)

pub value_tells : (o : Outcome Value) (h : Value → State → Outcome Bool) → and_value (valued o) (λ a s. a_truth (h a s)) ≡ a_truth (and_then o h)
value_tells o h = two_ways o _ _ _ _ (λ a s. refl)

pub values_end : (o : Outcome (List Value)) (h : List Value → State → Outcome Ending) → and_values (all_valued o) (λ a s. ended (h a s)) ≡ ended (and_then o h)
values_end o h = two_ways o _ _ _ _ (λ a s. refl)

pub truth_ends : (o : Outcome Bool) (h : Bool → State → Outcome Ending) → and_truth (a_truth o) (λ a s. ended (h a s)) ≡ ended (and_then o h)
truth_ends o h = two_ways o _ _ _ _ (λ a s. refl)

pub ending_ends : (o : Outcome Ending) (h : Ending → State → Outcome Ending) → and_ending (ended o) (λ a s. ended (h a s)) ≡ ended (and_then o h)
ending_ends o h = two_ways o _ _ _ _ (λ a s. refl)

-- a body and its updates, and what comes behind both
pub both_end : (o : Outcome Ending) (f h : Ending → State → Outcome Ending)
    → and_ending (and_ending (ended o) (λ a s. ended (f a s))) (λ a s. ended (h a s)) ≡ ended (and_then (and_then o f) h)
both_end o f h = ap (λ o. and_ending o (λ a s. ended (h a s))) (ending_ends o f) ∙ ending_ends (and_then o f) h

-- ---- throw

abbrev pub thrown_with : Value → State → Outcome Answer
thrown_with a s = with_reference a s (λ k. Threw k s)

pub thrown_ends : (a : Value) (s : State) → thrown_with a s ≡ ended (with_reference a s (λ k. Threw k s))
thrown_ends (v.Int z) s = refl
thrown_ends (v.Long z) s = refl
thrown_ends (v.Char c) s = refl
thrown_ends (v.Truth b) s = refl
thrown_ends v.Null s = refl
thrown_ends (v.Ref r) s = refl
thrown_ends (v.Text k) s = refl

pub value_thrown : (o : Outcome Value) → and_value (valued o) (λ a s. with_reference a s (λ k. Threw k s)) ≡ ended (and_then o (λ a s. with_reference a s (λ k. Threw k s)))
value_thrown o = two_ways o _ _ _ _ thrown_ends
