use Rattle.std.proofs.Common.{◌≡◌, drop}
use Rattle.extract_interface.specs.Asked.{all_public}
use Rattle.extract_interface.proofs.methods.all_public.Given as goal

abbrev pub invariant-loop-method : goal.invariant-loop-method
invariant-loop-method l = all_public l.w (drop l.method-index l.methods) ≡ all_public l.w l.methods
