use Rattle.std.proofs.Common.{◌≡◌, drop}
use Rattle.operator_rules.specs.Operators as spec
use Rattle.operator_rules.proofs.finals.is_final_local.Given as goal

abbrev pub invariant-loop-local : goal.invariant-loop-local
invariant-loop-local l = spec.is_final_local (drop l.local-index l.locals) l.slot ≡ spec.is_final_local l.locals l.slot
