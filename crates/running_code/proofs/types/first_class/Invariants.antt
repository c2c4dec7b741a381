use Rattle.std.proofs.Common.{◌≡◌, drop}
use Rattle.core_meaning.specs.Code as code
use Rattle.running_code.proofs.types.first_class.Given as goal

abbrev pub invariant-loop-above : goal.invariant-loop-above
invariant-loop-above l = code.first_class l.w (drop l.above-index l.supers) ≡ code.first_class l.w l.supers
