use Rattle.std.proofs.Common.{ap, refl, ◌∙◌}
use Rattle.extract_constraints.specs.Told.{where_of}
use Rattle.type_constraints.proofs.Steps.{ended}
use Rattle.extract_constraints.proofs.Numbers.{step_number}
use Rattle.extract_constraints.specs.Declarations as de
use Rattle.extract_constraints.proofs.declarations.for_hidden.Goals as goal

pub loop-j-preserved : goal.loop-j-preserved
loop-j-preserved c =
    λ k told.
    let a = where_of c.args.at.now in
    step_number (de.for_hidden k a c.args.t.now c.args.node) (λ j s. de.result_for k c.args.t.now (de.result_declared a j) c.args.node s) (λ j js s. refl)
    c.args.hidden.now c.loop-j.j-index c.loop-j.links c.in_ok-links.links _ c.loop-j-test.true
    (c.in_ok-links.ensures k told ∙ ap (λ o. de.result_for k c.args.t.now o c.args.node c.loop-j.links) c.result_declared.ensures)
    (c.loop-j.invariant k told)

pub returns : goal.returns
returns c =
    λ k told.
    let a = where_of c.args.at.now in
    ended (de.for_hidden k a c.args.t.now c.args.node) (λ s. refl) c.args.hidden.now c.loop-j.j-index c.loop-j.links _ c.loop-j-test.false (c.loop-j.invariant k told)
