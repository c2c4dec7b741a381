use Rattle.std.proofs.Common.{◌≡◌, drop}
use Rattle.extract_interface.specs.Asked.{none_static}
use Rattle.extract_interface.proofs.methods.none_static.Given as goal

abbrev pub invariant-loop-method : goal.invariant-loop-method
invariant-loop-method l = none_static l.w (drop l.method-index l.methods) ≡ none_static l.w l.methods
