use Rattle.std.proofs.Common.{ap, sym, ◌∙◌}
use Rattle.extract_constraints.specs.Told.{where_of}
use Rattle.type_constraints.proofs.Steps.{all_end, all_miss, all_next}
use Rattle.extract_constraints.specs.Arguments.{call_of}
use Rattle.extract_constraints.specs.Arguments as ar
use Rattle.extract_constraints.proofs.arguments.is_chosen_still.Goals as goal

pub returns-then-not-branch : goal.returns-then-not-branch
returns-then-not-branch c =
    λ k told.
    let a = where_of c.args.at.now in
    let call = call_of c.args.call.now in
    all_miss (λ m. ar.candidate_alike k call c.args.old.now c.args.s.now c.args.place c.args.index (ar.candidate k a call m)) c.args.methods.now c.loop-m.m-index _ c.loop-m-test.true (sym (c.in_ok-candidate_alike.ensures k told ∙ ap (ar.candidate_alike k call c.args.old.now c.args.s.now c.args.place c.args.index) (c.candidate-info.ensures k told)) ∙ c.if-not-branch.true) (c.loop-m.invariant k told)

pub loop-m-preserved : goal.loop-m-preserved
loop-m-preserved c =
    λ k told.
    let a = where_of c.args.at.now in
    let call = call_of c.args.call.now in
    all_next (λ m. ar.candidate_alike k call c.args.old.now c.args.s.now c.args.place c.args.index (ar.candidate k a call m)) c.args.methods.now c.loop-m.m-index _ c.loop-m-test.true (sym (c.in_ok-candidate_alike.ensures k told ∙ ap (ar.candidate_alike k call c.args.old.now c.args.s.now c.args.place c.args.index) (c.candidate-info.ensures k told)) ∙ c.if-not-branch.false) (c.loop-m.invariant k told)

pub returns : goal.returns
returns c =
    λ k told.
    let a = where_of c.args.at.now in
    let call = call_of c.args.call.now in
    all_end (λ m. ar.candidate_alike k call c.args.old.now c.args.s.now c.args.place c.args.index (ar.candidate k a call m)) c.args.methods.now c.loop-m.m-index _ c.loop-m-test.false (c.loop-m.invariant k told)
