use Rattle.std.proofs.Common.{◌≡◌, ◌++◌, drop, map}
use Rattle.java_core.specs.View.{plain}
use Rattle.type_kinds.specs.Kinds as spec
use Rattle.type_kinds.proofs.conversions.converted_all.Given as goal

abbrev pub invariant-loop-ty : goal.invariant-loop-ty
invariant-loop-ty l = map plain l.done ++ spec.converted_all (drop l.ty-index l.tys) (map plain l.rest.items) ≡ spec.converted_all l.tys (map plain l.fn.xs)
