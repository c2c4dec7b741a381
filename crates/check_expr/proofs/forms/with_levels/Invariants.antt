use Rattle.std.proofs.Common.{◌≡◌}
use Rattle.written_types.specs.Types.{arrays}
use Rattle.check_expr.proofs.forms.with_levels.Given as goal

abbrev pub invariant-loop : goal.invariant-loop
invariant-loop l = l.ty ≡ arrays l.counter l.initial.ty
