use Rattle.std.proofs.Common.{sym, ap, ◌∙◌}
use Rattle.std.specs.Prelude.{◌&&◌}
use Rattle.class_world.specs.Types.{erased}
use Rattle.method_choice.specs.Choice.{pairwise}
use Rattle.thrown_exceptions.proofs.Steps.{ok_as, pair}
use Rattle.type_constraints.specs.Changed as ch
use Rattle.type_constraints.proofs.groups.+all.Goals as goal

pub returns-then-branch : goal.returns-then-branch
returns-then-branch _ c =
    λ f are ts ties.
    ok_as c.all_erase_alike.result _ _
    (ap (λ b. b && pairwise (λ s t. ch.is_alike f (erased s) (erased t)) c.in-Some.ss.now c.in-Some-split_first.ts.now) (sym c.if-branch.true ∙ c.in_ok-erase_alike-in-Some-split_first.ensures f are ts ties) ∙ sym (pair (pairwise (λ s t. ch.is_alike f (erased s) (erased t))) _ _ _ _ c.in-Some.ensures.cases.0 c.in-Some-split_first.ensures.cases.0))
    (c.all_erase_alike.ensures f are ts ties)

pub returns-else-branch : goal.returns-else-branch
returns-else-branch _ c =
    λ f are ts ties.
    ap (λ b. b && pairwise (λ s t. ch.is_alike f (erased s) (erased t)) c.in-Some.ss.now c.in-Some-split_first.ts.now) (sym c.if-branch.false ∙ c.in_ok-erase_alike-in-Some-split_first.ensures f are ts ties) ∙ sym (pair (pairwise (λ s t. ch.is_alike f (erased s) (erased t))) _ _ _ _ c.in-Some.ensures.cases.0 c.in-Some-split_first.ensures.cases.0)
