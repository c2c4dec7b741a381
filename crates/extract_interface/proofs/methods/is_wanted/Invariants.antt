use Rattle.std.proofs.Common.{map}
use Rattle.std.specs.String.{string_bytes}
use Rattle.type_kinds.specs.Members.{method_at}
use Rattle.extract_interface.specs.Asked.{IsNamed}
use Rattle.extract_interface.proofs.Firsts.{AreNone}
use Rattle.extract_interface.proofs.methods.is_wanted.Given as goal

abbrev pub invariant-loop-word : goal.invariant-loop-word
invariant-loop-word l = AreNone (λ word. IsNamed l.names word (method_at l.w l.method)) (map string_bytes l.words) l.word-index
