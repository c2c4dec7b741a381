use Rattle.std.proofs.Common.{◌≡◌, drop, map}
use Rattle.java_core.specs.View.{param_plain}
use Rattle.type_places.specs.Places as spec
use Rattle.type_places.proofs.members.in_params.Given as goal

abbrev pub invariant-loop-index : goal.invariant-loop-index
invariant-loop-index l = spec.in_params l.w l.at l.method l.index (map param_plain (drop l.index l.params)) l.found ≡ spec.in_params l.w l.at l.method 0 (map param_plain l.params) l.fn.found
