use Rattle.std.proofs.Common.{map, sym, ap, ◌∙◌}
use Rattle.java_core.specs.declared.written.CoreType.{out-CoreType}
use Rattle.java_core.specs.View.{type_row, written}
use Rattle.java_core.proofs.Views.{type_out}
use Rattle.marked_types.specs.Marked as spec
use Rattle.marked_types.proofs.Forms.{ok_as}
use Rattle.marked_types.proofs.marking.marked_inside.Goals as goal

pub returns : goal.returns
returns c =
    let k = c.args.class in
    let x = c.args.ty.now in
    ok_as c.with_args.result _ _
    (ap (λ xs. spec.with_args xs (out-CoreType x).ty) (c.in_ok-args.ensures ∙ ap (λ xs. spec.args_marked k (type_row (map written xs))) c.as_slice.ensures)
    ∙ sym (ap (spec.marked_inside k) (type_out x)))
    c.with_args.ensures
