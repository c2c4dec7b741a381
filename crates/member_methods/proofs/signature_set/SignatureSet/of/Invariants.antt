use Rattle.std.proofs.Common.{nat_eq}
use Rattle.std.specs.HashSet.{contains}
use Rattle.member_methods.proofs.Sets.{AreFirst}
use Rattle.member_methods.proofs.signature_set.SignatureSet.of.Given as goal

abbrev pub invariant-loop-k : goal.invariant-loop-k
invariant-loop-k l = AreFirst l.w l.methods l.k-index l.numbers (contains nat_eq l.members)
