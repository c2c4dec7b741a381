use Rattle.std.proofs.Common.{ap, refl, ◌∙◌}
use Rattle.std.specs.Prelude.{slice_index_or as get_or}
use Rattle.extract_constraints.specs.Told.{where_of}
use Rattle.type_constraints.proofs.Steps.{ended}
use Rattle.extract_constraints.proofs.Numbers.{step_number}
use Rattle.extract_constraints.specs.Arguments.{call_of}
use Rattle.extract_constraints.specs.Arguments as ar
use Rattle.extract_constraints.specs.Told as to
use Rattle.kept_places.specs.declared.links.Kind.TheVariants as kind
use Rattle.extract_constraints.proofs.arguments.need_each.Goals as goal

pub loop-place-preserved : goal.loop-place-preserved
loop-place-preserved c =
    λ k told.
    let a = where_of c.args.at.now in
    let call = call_of c.args.call.now in
    step_number (ar.need_each k a call c.args.old.now c.args.s.now c.args.index c.args.node) (λ p s. to.need_unless (ar.is_chosen_still k a call c.args.old.now c.args.s.now p c.args.index (ar.named k a call)) p c.args.node kind.Overload s) (λ p ps s. refl)
    c.args.places.now c.loop-place.place-index c.loop-place.links c.in_ok-links.links _ c.loop-place-test.true
    (c.in_ok-links.ensures ∙ ap (λ b. to.need_unless b (get_or c.args.places.now c.loop-place.place-index 0) c.args.node kind.Overload c.loop-place.links)
    (c.in_ok-met.ensures k told ∙ ap (ar.is_chosen_still k a call c.args.old.now c.args.s.now (get_or c.args.places.now c.loop-place.place-index 0) c.args.index) (c.named-methods.ensures k told)))
    (c.loop-place.invariant k told)

pub returns : goal.returns
returns c =
    λ k told.
    let a = where_of c.args.at.now in
    let call = call_of c.args.call.now in
    ended (ar.need_each k a call c.args.old.now c.args.s.now c.args.index c.args.node) (λ s. refl) c.args.places.now c.loop-place.place-index c.loop-place.links _ c.loop-place-test.false (c.loop-place.invariant k told)
