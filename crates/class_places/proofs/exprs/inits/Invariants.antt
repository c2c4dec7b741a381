use Rattle.std.proofs.Common.{◌≡◌, drop, map}
use Rattle.java_core.specs.View.{var_plain}
use Rattle.class_places.specs.Places as spec
use Rattle.class_places.proofs.exprs.inits.Given as goal

abbrev pub invariant-loop-var : goal.invariant-loop-var
invariant-loop-var l = spec.inits l.class (map var_plain (drop l.var-index l.vars)) l.places ≡ spec.inits l.class (map var_plain l.vars) l.fn.places
