use Rattle.std.proofs.Common.{◌≡◌, ◌++◌, drop}
use Rattle.running_code.specs.Types as spec
use Rattle.running_code.proofs.types.own_held.Given as goal

abbrev pub invariant-loop-field : goal.invariant-loop-field
invariant-loop-field l = l.held ++ spec.own_held l.w (drop l.field-index l.fields) ≡ spec.own_held l.w l.fields
