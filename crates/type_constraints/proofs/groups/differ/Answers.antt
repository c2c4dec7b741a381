use Rattle.std.proofs.Common.{ap, ◌∙◌}
use Rattle.std.specs.Prelude.{not}
use Rattle.type_constraints.specs.Arguments as ar
use Rattle.type_constraints.proofs.groups.differ.Goals as goal

pub returns-in_ok-have_one_erasure-in-Some : goal.returns-in_ok-have_one_erasure-in-Some
returns-in_ok-have_one_erasure-in-Some c =
    λ f are ts ties.
    ap not (c.in_ok-have_one_erasure-in-Some.ensures f are ts ties) ∙ ap (ar.differ f c.args.info.now) c.in-Some.ensures.value
