use Rattle.std.proofs.Common.{map, sym, ap, ◌∙◌}
use Rattle.java_core.specs.declared.written.CoreType.{out-CoreType}
use Rattle.java_core.specs.View.{type_row, written}
use Rattle.java_core.proofs.Views.{type_out}
use Rattle.marked_types.specs.Marked as spec
use Rattle.marked_types.proofs.Forms.{ok_as}
use Rattle.marked_types.proofs.marking.marked.Goals as goal

pub returns : goal.returns
returns c =
    let k = c.args.class in
    let d = c.args.declared.now in
    let x = c.args.ty.now in
    ok_as c.marked_head.result _ _
    (ap (λ xs. spec.marked_head k (out-CoreType x).node.id xs d) (c.in_ok-args.ensures ∙ ap (λ xs. spec.args_marked k (type_row (map written xs))) c.as_slice.ensures)
    ∙ sym (ap (λ w. spec.marked k w d) (type_out x)))
    c.marked_head.ensures
