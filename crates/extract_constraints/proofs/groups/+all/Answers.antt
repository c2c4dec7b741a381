use Rattle.std.proofs.Common.{sym, ap, ◌∙◌}
use Rattle.std.specs.Prelude.{◌&&◌}
use Rattle.method_choice.specs.Choice.{pairwise}
use Rattle.class_places.proofs.Steps.{pair}
use Rattle.marked_types.proofs.Forms.{ok_as}
use Rattle.extract_constraints.specs.Groups as spec
use Rattle.extract_constraints.proofs.groups.+all.Goals as goal

pub returns-then-branch : goal.returns-then-branch
returns-then-branch _ c =
    λ k told.
    ok_as c.all_erase_alike.result _ _
    (ap (λ b. b && pairwise (spec.erase_alike k) c.in-Some.ss.now c.in-Some-split_first.ts.now) (sym c.if-branch.true ∙ c.in_ok-erase_alike-in-Some-split_first.ensures k told) ∙ sym (pair (pairwise (spec.erase_alike k)) _ _ _ _ c.in-Some.ensures.cases.0 c.in-Some-split_first.ensures.cases.0))
    (c.all_erase_alike.ensures k told)

pub returns-else-branch : goal.returns-else-branch
returns-else-branch _ c =
    λ k told.
    ap (λ b. b && pairwise (spec.erase_alike k) c.in-Some.ss.now c.in-Some-split_first.ts.now) (sym c.if-branch.false ∙ c.in_ok-erase_alike-in-Some-split_first.ensures k told) ∙ sym (pair (pairwise (spec.erase_alike k)) _ _ _ _ c.in-Some.ensures.cases.0 c.in-Some-split_first.ensures.cases.0)
