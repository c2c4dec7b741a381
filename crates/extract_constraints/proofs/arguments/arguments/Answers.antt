use Rattle.std.proofs.Common.{ap, sym, ◌∙◌}
use Rattle.extract_constraints.specs.Told.{where_of}
use Rattle.java_core.specs.View.{plains}
use Rattle.marked_types.proofs.Forms.{ok_as}
use Rattle.extract_constraints.specs.Arguments.{call_of}
use Rattle.extract_constraints.specs.Arguments as ar
use Rattle.extract_constraints.proofs.arguments.arguments.Goals as goal

pub returns-then-is_concerned : goal.returns-then-is_concerned
returns-then-is_concerned c =
    λ k told.
    let a = where_of c.args.at.now in
    let call = call_of c.args.call.now in
    ok_as c.to_group.result _ _
    (ap (λ b. ar.to_group b k a c.args.locals.now call (plains c.args.xs.now) c.args.links) (c.in_ok-several.ensures k told) ∙ ap (λ b. ar.arguments_if b k a c.args.locals.now call (plains c.args.xs.now) c.args.links) (sym c.if-is_concerned.true ∙ c.is_concerned.ensures))
    (c.to_group.ensures k told)

pub returns : goal.returns
returns c =
    λ k told.
    let a = where_of c.args.at.now in
    let call = call_of c.args.call.now in
    ap (λ b. ar.arguments_if b k a c.args.locals.now call (plains c.args.xs.now) c.args.links) (sym c.if-is_concerned.false ∙ c.is_concerned.ensures)
