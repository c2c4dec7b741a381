use Rattle.std.proofs.Common.{drop, map, ◌≡◌}
use Rattle.java_core.specs.View.{param_plain}
use Rattle.extract_constraints.proofs.Each.{Each}
use Rattle.extract_constraints.specs.Declarations as de
use Rattle.extract_constraints.proofs.declarations.params.Given as goal

abbrev pub invariant-loop-index : goal.invariant-loop-index
invariant-loop-index l = Each l.at (λ k a. de.params k a l.m l.info l.hidden l.index (map param_plain (drop l.index l.xs)) l.links ≡ de.params k a l.m l.info l.hidden 0 (map param_plain l.xs) l.fn.links)
