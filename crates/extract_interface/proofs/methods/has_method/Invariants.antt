use Rattle.type_kinds.specs.Members.{method_at}
use Rattle.extract_interface.specs.Asked.{IsNamed}
use Rattle.extract_interface.proofs.Firsts.{AreNone}
use Rattle.extract_interface.proofs.methods.has_method.Given as goal

abbrev pub invariant-loop-method : goal.invariant-loop-method
invariant-loop-method l = AreNone (λ m. IsNamed l.names l.word (method_at l.w m)) l.methods l.method-index
