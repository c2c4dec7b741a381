use Rattle.std.proofs.Common.{◌≡◌, []}
use Rattle.class_world.specs.Signatures.{HaveOneSignatureIn}
use Rattle.method_ties.proofs.Firsts.{Gathers}
use Rattle.method_ties.proofs.replace.alike_of.Given as goal

abbrev pub invariant-loop-k : goal.invariant-loop-k
invariant-loop-k l = Gathers (λ x k. (k ≡ x) × HaveOneSignatureIn l.w l.c l.m x) [] l.listed l.alike.items l.k-index
