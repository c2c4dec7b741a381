use Rattle.std.proofs.Common.{drop, map}
use Rattle.std.specs.String.{string_bytes}
use Rattle.extract_interface.proofs.Wanted.{AreSoFar}
use Rattle.extract_interface.proofs.methods.wanted.Given as goal

abbrev pub invariant-loop-method : goal.invariant-loop-method
invariant-loop-method l = AreSoFar l.w l.names (map string_bytes l.words) l.methods (drop l.method-index l.methods) l.found
