use Rattle.std.proofs.Common.{refl}
use Rattle.java_core.specs.declared.expr.CoreForm.TheOpen as o
use Rattle.java_core.specs.declared.expr.CoreForm.TheVariants as v
use Rattle.run_frames.specs.Runs.{comes, place_of, whole}
use Rattle.run_frames.proofs.Steps.{ok_as}
use Rattle.run_expressions.proofs.Forms.{current_first}
use Rattle.run_expressions.proofs.variables.current.Goals as goal

pub returns-in-Implied : goal.returns-in-Implied
returns-in-Implied c k is =
    let i = c.in-Implied in
    let old = c.args.run.now in
    ok_as c.evaluate_current.result (whole k c.evaluate_current.new.run) (comes k old) _ _
    (current_first (place_of k old) old.state c.args.x.now (v.Implied i.inner) (o.Implied i.inner) i.is (v.outs-Implied i.inner) c.args.of c.get-in-Implied.result.now i.inner _ _ c.get-in-Implied.ensures refl (λ a s. refl))
    (c.evaluate_current.ensures k)
