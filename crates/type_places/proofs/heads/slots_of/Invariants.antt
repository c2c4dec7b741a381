use Rattle.std.proofs.Common.{◌≡◌, ◌++◌, drop, map}
use Rattle.java_core.specs.View.{var_plain}
use Rattle.type_places.specs.Places as spec
use Rattle.type_places.proofs.heads.slots_of.Given as goal

abbrev pub invariant-loop-var : goal.invariant-loop-var
invariant-loop-var l = l.slots ++ spec.slots_of (map var_plain (drop l.var-index l.vars)) ≡ spec.slots_of (map var_plain l.vars)
