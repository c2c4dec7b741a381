use Rattle.std.proofs.Common.{◌≡◌, ◌++◌, map, drop}
use Rattle.running_code.specs.Types as spec
use Rattle.running_code.proofs.types.fixed_of.Given as goal

abbrev pub invariant-loop-info : goal.invariant-loop-info
invariant-loop-info l = l.fixed ++ map (spec.is_fixed l.w) (drop l.info-index l.w.fields) ≡ map (spec.is_fixed l.w) l.w.fields
