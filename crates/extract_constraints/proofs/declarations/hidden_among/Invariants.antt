use Rattle.std.proofs.Common.{drop, ◌++◌, ◌≡◌}
use Rattle.std.specs.Prelude.{filter}
use Rattle.extract_constraints.proofs.Each.{Each}
use Rattle.extract_constraints.specs.Declarations as de
use Rattle.extract_constraints.proofs.declarations.hidden_among.Given as goal

abbrev pub invariant-loop-m : goal.invariant-loop-m
invariant-loop-m l = Each l.at (λ k a. l.hidden ++ filter (de.hides k a l.info) (drop l.m-index l.methods) ≡ filter (de.hides k a l.info) l.methods)
