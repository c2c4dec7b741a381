use Rattle.std.proofs.Common.{◌≡◌, drop, map}
use Rattle.java_core.specs.View.{field_plain, written}
use Rattle.marked_types.specs.Table as spec
use Rattle.marked_types.proofs.marks.mark_fields.Given as goal

abbrev pub invariant-loop-var : goal.invariant-loop-var
invariant-loop-var l = spec.mark_fields l.class l.w (written l.ty) (map field_plain (drop l.var-index l.vars)) l.marks ≡ spec.mark_fields l.class l.w (written l.ty) (map field_plain l.vars) l.fn.marks
