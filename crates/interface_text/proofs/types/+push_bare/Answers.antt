use Rattle.interface_text.proofs.Rows.{bare_behind, row_next}
use Rattle.interface_text.proofs.types.+push_bare.Goals as goal

pub push_args-loop-arg-preserved : goal.push_args-loop-arg-preserved
push_args-loop-arg-preserved t c =
    row_next c.args.q.now c.args.args.now c.loop-arg.arg-index c.arg-item.result c.loop-arg.before.now c.loop-arg.out.items c.extend_from_slice.new.self.items
    c.push_bare.new.out.items c.push_levels.new.out.items _ c.loop-arg-test.true c.arg-item.is c.in_ok-extend_from_slice.ensures.items c.in_ok-push_bare.ensures
    c.in_ok-push_levels.ensures c.loop-arg.invariant

pub push_bare-returns : goal.push_bare-returns
push_bare-returns t c =
    bare_behind c.args.q.now c.args.ty.now c.args.out.now.items c.head_text.result.now c.as_bytes.result.now c.extend_from_slice.new.self.items
    c.push_args.new.out.items c.as_slice.result.now c.head_text.ensures c.as_bytes.ensures.value c.in_ok-extend_from_slice.ensures.items c.as_slice.ensures
    c.in_ok-push_args.ensures
