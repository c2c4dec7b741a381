use Rattle.std.proofs.Common.{ap, sym, ◌∙◌}
use Rattle.extract_constraints.specs.Told.{where_of}
use Rattle.java_core.specs.View.{plains}
use Rattle.marked_types.proofs.Forms.{ok_as}
use Rattle.extract_constraints.specs.Arguments.{call_of}
use Rattle.extract_constraints.specs.Arguments as ar
use Rattle.type_kinds.specs.Kinds as kinds
use Rattle.extract_constraints.proofs.arguments.to_group.Goals as goal

pub returns-then-several : goal.returns-then-several
returns-then-several c =
    λ k told.
    let a = where_of c.args.at.now in
    let call = call_of c.args.call.now in
    ok_as c.put_with.result _ _
    (ap (ar.put_with (kinds.args_of call.marked) k a call) (c.in_ok-links.ensures k told) ∙ ap (λ b. ar.to_group b k a c.args.locals.now call (plains c.args.xs.now) c.args.links) (sym c.if-several.true))
    (c.put_with.ensures k told)

pub returns : goal.returns
returns c =
    λ k told.
    let a = where_of c.args.at.now in
    let call = call_of c.args.call.now in
    ok_as c.to_params.result _ _
    (ap (λ b. ar.to_group b k a c.args.locals.now call (plains c.args.xs.now) c.args.links) (sym c.if-several.false))
    (c.to_params.ensures k told)
