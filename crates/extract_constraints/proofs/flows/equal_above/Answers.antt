use Rattle.std.proofs.Common.{ap, sym, ◌∙◌}
use Rattle.class_places.proofs.Steps.{pair}
use Rattle.extract_constraints.specs.Told.{where_of}
use Rattle.extract_constraints.specs.Flows as fl
use Rattle.marked_types.proofs.Forms.{ok_as}
use Rattle.extract_constraints.proofs.flows.equal_above.Goals as goal

pub returns-then-is_generic : goal.returns-then-is_generic
returns-then-is_generic c =
    λ k told.
    let a = where_of c.args.at.now in
    ok_as c.both_args.result _ _
    (pair (λ o q. fl.both_args o q c.args.node c.args.links) _ _ _ _ (c.in_ok-one.ensures k told) (c.in_ok-other.ensures k told)
    ∙ ap (λ b. fl.equal_above b k c.args.s.now c.args.t.now c.args.class c.args.node c.args.links) (sym c.if-is_generic.true ∙ c.is_generic.ensures))
    c.both_args.ensures

pub returns : goal.returns
returns c =
    λ k told.
    ap (λ b. fl.equal_above b k c.args.s.now c.args.t.now c.args.class c.args.node c.args.links) (sym c.if-is_generic.false ∙ c.is_generic.ensures)
