use Rattle.std.proofs.Common.{ap, sym, ◌∙◌}
use Rattle.std.specs.Prelude.{◌&&◌, ◌||◌}
use Rattle.extract_constraints.specs.Told.{where_of}
use Rattle.extract_constraints.specs.Arguments.{call_of}
use Rattle.extract_constraints.specs.Arguments as ar
use Rattle.extract_constraints.proofs.arguments.is_candidate.Goals as goal

pub returns-then-is_like : goal.returns-then-is_like
returns-then-is_like c =
    λ k told.
    let a = where_of c.args.at.now in
    let call = call_of c.args.call.now in
    c.may_name.ensures k told ∙ ap (λ b. b && (c.args.call.now.free || ar.sees k a c.args.m)) (sym c.if-is_like.true ∙ c.is_like.ensures)

pub returns : goal.returns
returns c =
    λ k told.
    let a = where_of c.args.at.now in
    let call = call_of c.args.call.now in
    ap (λ b. b && (c.args.call.now.free || ar.sees k a c.args.m)) (sym c.if-is_like.false ∙ c.is_like.ensures)
