use Rattle.std.proofs.Common.{ap, ◌∙◌}
use Rattle.written_types.specs.Types.{arrays}
use Rattle.check_stmt.proofs.Fronts.{front_then}
use Rattle.check_stmt.proofs.Steps.{with_vars_step}
use Rattle.check_stmt.proofs.scopes.declare_vars.Goals as goal

pub loop-var-preserved : goal.loop-var-preserved
loop-var-preserved c = record {
  scope =
      with_vars_step c.args.ty.now c.in_ok-ty.ty c.args.is_final c.loop-var.locals c.declare.new.locals _ c.args.vars.now c.loop-var.var-index c.var-item.result
      c.loop-var-test.true c.var-item.is (c.in_ok-ty.ensures ∙ ap (arrays c.var-item.result.dims) c.in_ok-copied.ensures) c.in_ok-declare.ensures.scope c.loop-var.invariant.scope;
  front = front_then _ _ _ c.loop-var.invariant.front c.declare.ensures.front;
}
