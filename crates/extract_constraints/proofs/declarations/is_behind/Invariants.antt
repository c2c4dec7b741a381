use Rattle.std.proofs.Common.{drop, ◌≡◌}
use Rattle.extract_constraints.proofs.Each.{Each}
use Rattle.extract_constraints.specs.Declarations as de
use Rattle.extract_constraints.proofs.declarations.is_behind.Given as goal

abbrev pub invariant-loop-m : goal.invariant-loop-m
invariant-loop-m l = Each l.at (λ k a. de.is_behind k (drop l.m-index l.overridden) l.j ≡ de.is_behind k l.overridden l.j)
