use Rattle.std.specs.Option.{option_map}
use Rattle.std.proofs.Common.{map, refl}
use Rattle.java_core.specs.View.{plain, var_plain, written}
use Rattle.marked_types.specs.Marked.{marked}
use Rattle.class_places.proofs.Steps.{step}
use Rattle.type_constraints.proofs.Steps.{ended}
use Rattle.extract_constraints.specs.Told.{where_of}
use Rattle.extract_constraints.specs.Flows as fl
use Rattle.extract_constraints.specs.Links as li
use Rattle.extract_constraints.proofs.stmts.locals.Goals as goal

pub loop-var-preserved : goal.loop-var-preserved
loop-var-preserved c =
    λ k told.
    let a = where_of c.args.at.now in
    let w = written c.args.written.now in
    step (λ xs s. li.locals k a w (map var_plain xs) s) (λ x s. li.declared_local k a x.slot (marked (fl.class_of a) w x.ty) (option_map plain x.init) s) (λ x xs s. refl)
    c.args.vars.now c.loop-var.var-index c.var-item.result c.loop-var.s c.in_ok-s.s _ c.loop-var-test.true c.var-item.is
    (c.in_ok-s.ensures k told) (c.loop-var.invariant k told)

pub returns : goal.returns
returns c =
    λ k told.
    let a = where_of c.args.at.now in
    ended (λ xs s. li.locals k a (written c.args.written.now) (map var_plain xs) s) (λ s. refl) c.args.vars.now c.loop-var.var-index c.loop-var.s _ c.loop-var-test.false (c.loop-var.invariant k told)
