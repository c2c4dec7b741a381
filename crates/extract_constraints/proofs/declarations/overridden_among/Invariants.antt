use Rattle.std.proofs.Common.{drop, ◌++◌, ◌≡◌}
use Rattle.std.specs.Prelude.{filter}
use Rattle.extract_constraints.proofs.Each.{Each}
use Rattle.extract_constraints.proofs.declarations.overridden_among.Given as goal

abbrev pub invariant-loop-j : goal.invariant-loop-j
invariant-loop-j l = Each l.at (λ k a. l.found ++ filter (k.ties.overrides l.m) (drop l.j-index l.methods) ≡ filter (k.ties.overrides l.m) l.methods)
