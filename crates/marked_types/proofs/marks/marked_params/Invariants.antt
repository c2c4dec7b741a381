use Rattle.std.proofs.Common.{◌≡◌, ◌++◌, drop, map}
use Rattle.java_core.specs.View.{param_plain}
use Rattle.marked_types.specs.Table as spec
use Rattle.marked_types.proofs.marks.marked_params.Given as goal

abbrev pub invariant-loop-param : goal.invariant-loop-param
invariant-loop-param l = l.types ++ spec.marked_params l.class (map param_plain (drop l.param-index l.params)) ≡ spec.marked_params l.class (map param_plain l.params)
