use Rattle.std.proofs.Common.{ap, ◌∙◌}
use Rattle.std.specs.Prelude.{not}
use Rattle.extract_constraints.specs.Groups as spec
use Rattle.extract_constraints.proofs.groups.differ.Goals as goal

pub returns-in_ok-have_one_erasure-in-Some : goal.returns-in_ok-have_one_erasure-in-Some
returns-in_ok-have_one_erasure-in-Some c =
    λ k told.
    ap not (c.in_ok-have_one_erasure-in-Some.ensures k told) ∙ ap (spec.differ k c.args.info.now) c.in-Some.ensures
