use Rattle.std.proofs.Common.{◌≡◌, []}
use Rattle.method_ties.specs.Sides.{IsLower}
use Rattle.method_ties.proofs.Firsts.{Gathers}
use Rattle.method_ties.proofs.meet.lower_of.Given as goal

abbrev pub invariant-loop-m : goal.invariant-loop-m
invariant-loop-m l = Gathers (λ x m. (m ≡ x) × IsLower l.w l.c x) [] l.methods l.lower.items l.m-index
