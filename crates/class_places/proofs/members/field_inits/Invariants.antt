use Rattle.std.proofs.Common.{◌≡◌, drop, map}
use Rattle.java_core.specs.View.{field_plain}
use Rattle.class_places.specs.Places as spec
use Rattle.class_places.proofs.members.field_inits.Given as goal

abbrev pub invariant-loop-var : goal.invariant-loop-var
invariant-loop-var l = spec.field_inits l.class (map field_plain (drop l.var-index l.vars)) l.places ≡ spec.field_inits l.class (map field_plain l.vars) l.fn.places
