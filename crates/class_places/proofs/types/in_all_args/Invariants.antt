use Rattle.std.proofs.Common.{◌≡◌, drop, map}
use Rattle.java_core.specs.View.{written}
use Rattle.class_places.specs.Places as spec
use Rattle.class_places.proofs.types.in_all_args.Given as goal

abbrev pub invariant-loop-ty : goal.invariant-loop-ty
invariant-loop-ty l = spec.in_all_args l.class (map written (drop l.ty-index l.types)) l.places ≡ spec.in_all_args l.class (map written l.types) l.fn.places
