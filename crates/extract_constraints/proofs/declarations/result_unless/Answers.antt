use Rattle.std.proofs.Common.{ap, sym, ◌∙◌}
use Rattle.extract_constraints.specs.Told.{where_of}
use Rattle.marked_types.proofs.Forms.{ok_as}
use Rattle.extract_constraints.specs.Declarations as de
use Rattle.extract_constraints.proofs.declarations.result_unless.Goals as goal

pub returns-then-behind : goal.returns-then-behind
returns-then-behind c =
    λ k told.
    let a = where_of c.args.at.now in
    ap (λ b. de.result_unless b k a c.args.t.now c.args.j c.args.node c.args.links) (sym c.if-behind.true)

pub returns : goal.returns
returns c =
    λ k told.
    let a = where_of c.args.at.now in
    ok_as c.result_for.result _ _
    (ap (λ o. de.result_for k c.args.t.now o c.args.node c.args.links) c.result_declared.ensures ∙ ap (λ b. de.result_unless b k a c.args.t.now c.args.j c.args.node c.args.links) (sym c.if-behind.false))
    (c.result_for.ensures k told)
