use Rattle.std.proofs.Common.{◌≡◌, ◌<◌, drop, length, map}
use Rattle.std.specs.Prelude.{IfSome, filter, option_and_then, slice_get}
use Rattle.java_core.specs.View.{plain}
use Rattle.type_kinds.specs.Kinds.{ty_of}
use Rattle.type_facts.specs.Facts.{AreFacts, Facts}
use Rattle.method_choice.specs.Choice.{chosen, is_best, lone_after}
use Rattle.method_choice.proofs.choice.chosen.Given as goal

abbrev pub invariant-loop-at : goal.invariant-loop-at
invariant-loop-at l = record {
  -- the best one so far, and those among the rest
  rest : (f : Facts) → AreFacts l.q f
      → lone_after (option_and_then (λ i. slice_get l.candidates i) l.found) (filter (is_best f (map ty_of (map plain l.args)) l.candidates) (drop l.at l.candidates))
      ≡ chosen f (map ty_of (map plain l.args)) l.candidates;
  within : IfSome l.found (λ i. i < length l.candidates);
}
