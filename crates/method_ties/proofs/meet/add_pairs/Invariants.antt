use Rattle.std.proofs.Common.{◌≡◌}
use Rattle.method_ties.specs.Sides.{IsOnce, Meets}
use Rattle.method_ties.proofs.Firsts.{Gathers}
use Rattle.method_ties.proofs.meet.add_pairs.Given as goal

abbrev pub invariant-loop-m : goal.invariant-loop-m
invariant-loop-m l = Gathers (λ m p. (p ≡ record { lower = m; upper = l.k }) × Meets l.w l.c m l.k) l.initial.found.items l.methods l.found.items l.m-index × IsOnce l.found.items
