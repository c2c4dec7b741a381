-- Outcomes of calls, of new objects and of compound assignments, in the words of what waits.
use Rattle.std.proofs.Common.{◌≡◌, ℕ, List, Option, Some, None, slice_get, refl, sym, ap, ◌∙◌}
use Rattle.std.specs.Option.{option_map}
use Rattle.class_world.specs.declared.world.MethodInfo.{MethodInfo}
use Rattle.core_meaning.specs.declared.values.Value.{Value}
use Rattle.core_meaning.specs.declared.values.Value.TheVariants as v
use Rattle.core_meaning.specs.declared.values.State.{State}
use Rattle.core_meaning.specs.Outcome.{Outcome, Gives, Threw, Bound, and_then, with_some}
use Rattle.core_meaning.specs.Variables.{Place}
use Rattle.core_meaning.specs.Members.{invoked}
use Rattle.core_meaning.specs.Expressions.{called_static}
use Rattle.run_frames.specs.Frames.{and_nothing, and_value, nothing, valued}
use Rattle.run_frames.proofs.Outcomes.{two_ways}

pub static_called : (p : Place) (m : ℕ) (xs : List Value) (s : State) (owner : ℕ)
    → option_map (λ (i : MethodInfo). i.owner) (slice_get p.code.world.methods m) ≡ Some owner
    → and_nothing (nothing (p.initialise owner s)) (λ s. valued (invoked p m v.Null xs s)) ≡ valued (called_static p m xs s)
static_called p m xs s owner e = by (slice_get p.code.world.methods m) e
  where
    by : (o : Option MethodInfo) → option_map (λ (i : MethodInfo). i.owner) o ≡ Some owner
        → and_nothing (nothing (p.initialise owner s)) (λ s. valued (invoked p m v.Null xs s))
        ≡ valued (with_some o s (λ (i : MethodInfo). and_then (p.initialise i.owner s) (λ u s. invoked p m v.Null xs s)))
    by None e = search e
    by (Some i) e =
        let same : i.owner ≡ owner = cc e in
        two_ways (p.initialise owner s) _ _ _ _ (λ u s. refl) ∙ ap (λ k. valued (and_then (p.initialise k s) (λ u s. invoked p m v.Null xs s))) (sym same)

-- two that wait for values, one behind the other
pub both_wait : (o : Outcome Value) (f g : Value → State → Outcome Value)
    → and_value (and_value (valued o) (λ a s. valued (f a s))) (λ a s. valued (g a s)) ≡ valued (and_then (and_then o f) g)
both_wait (Gives a s) f g = two_ways (f a s) _ _ _ _ (λ b t. refl)
both_wait (Threw k s) f g = refl
both_wait (Bound s) f g = refl
