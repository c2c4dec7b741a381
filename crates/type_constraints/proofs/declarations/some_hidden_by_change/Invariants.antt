use Rattle.std.proofs.Common.{◌≡◌, drop}
use Rattle.std.specs.Prelude.{◌&&◌, ◌||◌}
use Rattle.std.specs.List.{list_any}
use Rattle.type_places.specs.Changes.{is_param}
use Rattle.type_constraints.specs.Declarations as spec
use Rattle.type_constraints.proofs.Each.{Each}
use Rattle.type_constraints.proofs.declarations.some_hidden_by_change.Given as goal

abbrev pub invariant-loop-k : goal.invariant-loop-k
invariant-loop-k l = Each l.at (λ a. list_any (λ k. (is_param a.change l.m a.change.index || is_param a.change k a.change.index) && spec.is_hidden a l.info k) (drop l.k-index l.above) ≡ list_any (λ k. (is_param a.change l.m a.change.index || is_param a.change k a.change.index) && spec.is_hidden a l.info k) l.above)
