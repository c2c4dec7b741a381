use Rattle.std.proofs.Common.{◌≡◌, ◌++◌, drop}
use Rattle.thrown_exceptions.specs.Thrown as spec
use Rattle.thrown_exceptions.proofs.classes.classes_in.Given as goal

abbrev pub invariant-loop-ty : goal.invariant-loop-ty
invariant-loop-ty l = l.out ++ spec.classes_in (drop l.ty-index l.types) ≡ spec.classes_in l.types
