use Rattle.std.proofs.Common.{◌≡◌, map, drop}
use Rattle.java_core.specs.View.{written}
use Rattle.interface_text.specs.Imports as spec
use Rattle.interface_text.proofs.imports.in_throws.Given as goal

abbrev pub invariant-loop-ty : goal.invariant-loop-ty
invariant-loop-ty l = spec.in_throws l.q (map written (drop l.ty-index l.throws)) l.found ≡ spec.in_throws l.q (map written l.throws) l.fn.found
