use Rattle.std.proofs.Common.{◌≡◌, false, not, take}
use Rattle.std.specs.Prelude.{is_some}
use Rattle.std.specs.List.{list_any}
use Rattle.reachability.proofs.groups.is_default.Given as goal

abbrev pub invariant-loop-label : goal.invariant-loop-label
invariant-loop-label l = list_any (λ x. not (is_some x)) (take l.label-index l.labels) ≡ false
