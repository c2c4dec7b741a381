use Rattle.std.proofs.Common.{◌≡◌, ◌++◌, map, drop}
use Rattle.std.specs.Prelude.{codes}
use Rattle.java_core.specs.View.{type_row, written}
use Rattle.interface_text.specs.Types as spec
use Rattle.interface_text.proofs.types.+push_bare.Given as goal

abbrev pub invariant-push_args-loop-arg : goal.invariant-push_args-loop-arg
invariant-push_args-loop-arg l = l.out.items ++ spec.row_text l.q l.before (type_row (map written (drop l.arg-index l.args)))
    ≡ l.initial.out.items ++ spec.row_text l.q (codes "<") (type_row (map written l.args))
