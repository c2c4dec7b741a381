use Rattle.std.proofs.Common.{◌≡◌, []}
use Rattle.class_world.specs.Overriding.{IsClass}
use Rattle.method_ties.proofs.Firsts.{Gathers}
use Rattle.method_ties.proofs.supers.classes.Given as goal

abbrev pub invariant-loop-s : goal.invariant-loop-s
invariant-loop-s l = Gathers (λ x s. (s ≡ x) × IsClass l.w x) [] l.types l.classes.items l.s-index
