use Rattle.std.proofs.Common.{◌≡◌, ◌++◌, drop, map}
use Rattle.java_core.specs.View.{field_plain}
use Rattle.type_places.specs.Places as spec
use Rattle.type_places.proofs.heads.fields_of.Given as goal

abbrev pub invariant-loop-var : goal.invariant-loop-var
invariant-loop-var l = l.fields ++ spec.fields_of (map field_plain (drop l.var-index l.vars)) ≡ spec.fields_of (map field_plain l.vars)
