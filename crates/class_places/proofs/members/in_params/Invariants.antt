use Rattle.std.proofs.Common.{◌≡◌, drop, map}
use Rattle.java_core.specs.View.{param_plain}
use Rattle.class_places.specs.Places as spec
use Rattle.class_places.proofs.members.in_params.Given as goal

abbrev pub invariant-loop-param : goal.invariant-loop-param
invariant-loop-param l = spec.in_params l.class (map param_plain (drop l.param-index l.params)) l.places ≡ spec.in_params l.class (map param_plain l.params) l.fn.places
