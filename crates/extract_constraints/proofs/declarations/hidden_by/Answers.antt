use Rattle.std.proofs.Common.{ap, sym, ◌∙◌}
use Rattle.std.specs.Prelude.{filter}
use Rattle.extract_constraints.specs.Told.{where_of}
use Rattle.class_places.proofs.Steps.{pair}
use Rattle.marked_types.proofs.Forms.{ok_as}
use Rattle.extract_constraints.specs.Declarations as de
use Rattle.member_uses.specs.Targets as tg
use Rattle.extract_constraints.proofs.declarations.hidden_by.Goals as goal

pub returns-then-is_static : goal.returns-then-is_static
returns-then-is_static c =
    λ k told.
    let a = where_of c.args.at.now in
    ok_as c.hidden_among.result _ _
    (ap (filter (de.hides k a c.args.info.now)) (c.named_in-methods.ensures k told ∙ pair (λ o n. tg.named_in k.facts o c.args.info.now.name n) _ _ _ _ c.in_ok-class.ensures c.len.ensures) ∙ ap (λ b. de.hidden_if b k a c.args.info.now) (sym c.if-is_static.true ∙ c.is_static.ensures))
    (c.hidden_among.ensures k told)

pub returns : goal.returns
returns c =
    λ k told.
    let a = where_of c.args.at.now in
    c.new.ensures ∙ ap (λ b. de.hidden_if b k a c.args.info.now) (sym c.if-is_static.false ∙ c.is_static.ensures)
