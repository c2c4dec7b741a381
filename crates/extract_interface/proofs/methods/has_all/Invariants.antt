use Rattle.std.proofs.Common.{map}
use Rattle.std.specs.String.{string_bytes}
use Rattle.extract_interface.specs.Asked.{HasMethod}
use Rattle.extract_interface.proofs.Firsts.{AreEach}
use Rattle.extract_interface.proofs.methods.has_all.Given as goal

abbrev pub invariant-loop-word : goal.invariant-loop-word
invariant-loop-word l = AreEach (HasMethod l.w l.names l.methods) (map string_bytes l.words) l.word-index
