use Rattle.std.proofs.Common.{◌≡◌, ◌++◌, drop, map}
use Rattle.java_core.specs.View.{type_row, written}
use Rattle.marked_types.specs.Marked as spec
use Rattle.marked_types.proofs.marking.args_marked.Given as goal

abbrev pub invariant-loop-ty : goal.invariant-loop-ty
invariant-loop-ty l = l.args ++ spec.args_marked l.class (type_row (map written (drop l.ty-index l.types))) ≡ spec.args_marked l.class (type_row (map written l.types))
