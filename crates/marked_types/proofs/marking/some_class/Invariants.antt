use Rattle.std.proofs.Common.{◌≡◌, drop}
use Rattle.std.specs.List.{list_any}
use Rattle.marked_types.specs.Marked as spec
use Rattle.marked_types.proofs.marking.some_class.Given as goal

abbrev pub invariant-loop-t : goal.invariant-loop-t
invariant-loop-t l = list_any (spec.is_class l.class) (drop l.t-index l.types) ≡ list_any (spec.is_class l.class) l.types
