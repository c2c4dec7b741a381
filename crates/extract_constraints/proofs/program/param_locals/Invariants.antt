use Rattle.std.proofs.Common.{◌≡◌, [], drop, map}
use Rattle.java_core.specs.View.{param_plain}
use Rattle.extract_constraints.specs.Told.{where_of}
use Rattle.extract_constraints.specs.Links as li
use Rattle.extract_constraints.proofs.program.param_locals.Given as goal

abbrev pub invariant-loop-index : goal.invariant-loop-index
invariant-loop-index l = li.param_locals (where_of l.at) l.method l.index (map param_plain (drop l.index l.params)) l.locals ≡ li.param_locals (where_of l.at) l.method 0 (map param_plain l.params) []
