use Rattle.std.proofs.Common.{◌≡◌, map, drop}
use Rattle.java_core.specs.View.{type_row, written}
use Rattle.interface_text.specs.Imports as spec
use Rattle.interface_text.proofs.imports.+in_type.Given as goal

abbrev pub invariant-in_types-loop-ty : goal.invariant-in_types-loop-ty
invariant-in_types-loop-ty l = spec.in_types l.q (type_row (map written (drop l.ty-index l.types))) l.found ≡ spec.in_types l.q (type_row (map written l.types)) l.initial.found
