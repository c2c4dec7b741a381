use Rattle.std.proofs.Common.{[]}
use Rattle.method_ties.proofs.Firsts.{Gathers}
use Rattle.found_methods.specs.Supers.{IsClassIn}
use Rattle.found_methods.proofs.supers.superclasses_of.Given as goal

abbrev pub invariant-loop-d : goal.invariant-loop-d
invariant-loop-d l = Gathers (IsClassIn l.w) [] l.d-items l.above l.d-index
