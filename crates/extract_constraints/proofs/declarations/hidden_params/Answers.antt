use Rattle.std.proofs.Common.{ap, refl, ◌∙◌}
use Rattle.extract_constraints.specs.Told.{where_of}
use Rattle.type_constraints.proofs.Steps.{ended}
use Rattle.extract_constraints.proofs.Numbers.{step_number}
use Rattle.extract_constraints.specs.Declarations as de
use Rattle.extract_constraints.proofs.declarations.hidden_params.Goals as goal

pub loop-m-preserved : goal.loop-m-preserved
loop-m-preserved c =
    let a = where_of c.args.at.now in
    step_number (de.hidden_params a c.args.t.now c.args.index c.args.node) (λ m s. de.hidden_param c.args.t.now (de.param_declared a m c.args.index) c.args.node s) (λ m ms s. refl)
    c.args.hidden.now c.loop-m.m-index c.loop-m.links c.in_ok-links.links _ c.loop-m-test.true
    (c.in_ok-links.ensures ∙ ap (λ o. de.hidden_param c.args.t.now o c.args.node c.loop-m.links) c.param_declared.ensures)
    c.loop-m.invariant

pub returns : goal.returns
returns c =
    let a = where_of c.args.at.now in
    ended (de.hidden_params a c.args.t.now c.args.index c.args.node) (λ s. refl) c.args.hidden.now c.loop-m.m-index c.loop-m.links _ c.loop-m-test.false c.loop-m.invariant
