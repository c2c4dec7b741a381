use Rattle.std.proofs.Common.{drop, ◌≡◌}
use Rattle.std.specs.List.{list_any}
use Rattle.marked_types.specs.Marked as mk
use Rattle.extract_constraints.proofs.arguments.some_mark.Given as goal

abbrev pub invariant-loop-t : goal.invariant-loop-t
invariant-loop-t l = list_any (λ x. mk.is_number (mk.own_mark x) l.place) (drop l.t-index l.types) ≡ list_any (λ x. mk.is_number (mk.own_mark x) l.place) l.types
