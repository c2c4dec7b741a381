use Rattle.std.proofs.Common.{ap, sym, ◌∙◌}
use Rattle.extract_constraints.specs.Told.{where_of}
use Rattle.extract_constraints.specs.Arguments.{call_of}
use Rattle.extract_constraints.specs.Arguments as ar
use Rattle.extract_constraints.proofs.arguments.candidate.Goals as goal

pub returns-in-None : goal.returns-in-None
returns-in-None c =
    λ k told.
    let a = where_of c.args.at.now in
    let call = call_of c.args.call.now in
    ap (ar.candidate_info k a call c.args.m) c.in-None.ensures

pub returns-then-is_candidate : goal.returns-then-is_candidate
returns-then-is_candidate c =
    λ k told.
    let a = where_of c.args.at.now in
    let call = call_of c.args.call.now in
    ap (λ b. ar.if_candidate b c.in-Some.info.now) (sym c.if-is_candidate.true ∙ c.is_candidate.ensures k told) ∙ ap (ar.candidate_info k a call c.args.m) c.in-Some.ensures

pub returns-else-is_candidate : goal.returns-else-is_candidate
returns-else-is_candidate c =
    λ k told.
    let a = where_of c.args.at.now in
    let call = call_of c.args.call.now in
    ap (λ b. ar.if_candidate b c.in-Some.info.now) (sym c.if-is_candidate.false ∙ c.is_candidate.ensures k told) ∙ ap (ar.candidate_info k a call c.args.m) c.in-Some.ensures
