use Rattle.std.proofs.Common.{sym, ap, ◌∙◌}
use Rattle.std.specs.Prelude.{◌&&◌, not}
use Rattle.type_kinds.specs.Members.{method_at}
use Rattle.type_constraints.specs.Asked.{asked}
use Rattle.type_constraints.specs.Declarations as de
use Rattle.type_constraints.proofs.declarations.is_double.Goals as goal

pub returns-then-are_tied : goal.returns-then-are_tied
returns-then-are_tied c =
    λ f are ts ties.
    let a = asked c.args.at.now f ts in
    ap (λ b. not b && de.have_one_erasure_with a c.args.info.now (method_at c.args.at.now.q.world.now c.args.k) && not (de.is_of_family a c.args.m c.args.k)) (sym c.if-are_tied.true ∙ c.are_tied.ensures f are ts ties)

pub returns-then-branch : goal.returns-then-branch
returns-then-branch c =
    λ f are ts ties.
    let a = asked c.args.at.now f ts in
    ap not (c.is_of_family.ensures f are ts ties) ∙ ap (λ b. b && not (de.is_of_family a c.args.m c.args.k)) (sym c.if-branch.true ∙ c.in_ok-have_one_erasure_with.ensures f are ts ties) ∙ ap (λ b. not b && de.have_one_erasure_with a c.args.info.now (method_at c.args.at.now.q.world.now c.args.k) && not (de.is_of_family a c.args.m c.args.k)) (sym c.if-are_tied.false ∙ c.are_tied.ensures f are ts ties)

pub returns : goal.returns
returns c =
    λ f are ts ties.
    let a = asked c.args.at.now f ts in
    ap (λ b. b && not (de.is_of_family a c.args.m c.args.k)) (sym c.if-branch.false ∙ c.in_ok-have_one_erasure_with.ensures f are ts ties) ∙ ap (λ b. not b && de.have_one_erasure_with a c.args.info.now (method_at c.args.at.now.q.world.now c.args.k) && not (de.is_of_family a c.args.m c.args.k)) (sym c.if-are_tied.false ∙ c.are_tied.ensures f are ts ties)
