use Rattle.std.proofs.Common.{ap, ◌∙◌}
use Rattle.written_types.specs.Types.{arrays}
use Rattle.check_stmt.proofs.Fronts.{front_then}
use Rattle.check_stmt.proofs.Steps.{vars_step}
use Rattle.check_stmt.proofs.locals.check_vars.Goals as goal

pub loop-var-preserved : goal.loop-var-preserved
loop-var-preserved c = record {
  rest = λ f d.
      vars_step f c.args.place.now c.args.ty.now c.in_ok-ty.ty c.args.is_final c.loop-var.locals c.check_var.new.locals c.args.vars.now c.loop-var.var-index c.var-item.result
      c.loop-var.done c.push.new.self c.in_ok-check_var.field-0 _ c.loop-var-test.true c.var-item.is
      (c.in_ok-ty.ensures ∙ ap (arrays c.var-item.result.dims) c.in_ok-copied.ensures)
      (c.in_ok-check_var.ensures.meets f d) c.in_ok-push.ensures.ok c.in_ok-check_var.ensures.scope (c.loop-var.invariant.rest f d);
  front = front_then _ _ _ c.loop-var.invariant.front c.check_var.ensures.front;
}
