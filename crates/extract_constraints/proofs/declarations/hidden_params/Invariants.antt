use Rattle.std.proofs.Common.{drop, ◌≡◌}
use Rattle.extract_constraints.specs.Told.{where_of}
use Rattle.extract_constraints.specs.Declarations as de
use Rattle.extract_constraints.proofs.declarations.hidden_params.Given as goal

abbrev pub invariant-loop-m : goal.invariant-loop-m
invariant-loop-m l = de.hidden_params (where_of l.at) l.t l.index l.node (drop l.m-index l.hidden) l.links ≡ de.hidden_params (where_of l.at) l.t l.index l.node l.hidden l.fn.links
