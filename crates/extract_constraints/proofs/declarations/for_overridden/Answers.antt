use Rattle.std.proofs.Common.{ap, refl, ◌∙◌}
use Rattle.std.specs.Prelude.{slice_index_or as get_or}
use Rattle.extract_constraints.specs.Told.{where_of}
use Rattle.type_constraints.proofs.Steps.{ended}
use Rattle.extract_constraints.proofs.Numbers.{step_number}
use Rattle.extract_constraints.specs.Declarations as de
use Rattle.extract_constraints.proofs.declarations.for_overridden.Goals as goal

pub loop-j-preserved : goal.loop-j-preserved
loop-j-preserved c =
    λ k told.
    let a = where_of c.args.at.now in
    step_number (de.for_overridden k a c.args.t.now c.args.node c.args.methods.now) (λ j s. de.result_unless (de.is_behind k c.args.methods.now j) k a c.args.t.now j c.args.node s) (λ j js s. refl)
    c.args.methods.now c.loop-j.j-index c.loop-j.links c.in_ok-links.links _ c.loop-j-test.true
    (c.in_ok-links.ensures k told ∙ ap (λ b. de.result_unless b k a c.args.t.now (get_or c.args.methods.now c.loop-j.j-index 0) c.args.node c.loop-j.links) (c.is_behind-behind.ensures k told))
    (c.loop-j.invariant k told)

pub returns : goal.returns
returns c =
    λ k told.
    let a = where_of c.args.at.now in
    ended (de.for_overridden k a c.args.t.now c.args.node c.args.methods.now) (λ s. refl) c.args.methods.now c.loop-j.j-index c.loop-j.links _ c.loop-j-test.false (c.loop-j.invariant k told)
