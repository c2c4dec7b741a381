use Rattle.std.proofs.Common.{ap, ◌∙◌}
use Rattle.extract_constraints.specs.Told.{where_of}
use Rattle.extract_constraints.specs.Receivers as spec
use Rattle.extract_constraints.proofs.receivers.answers_still.Goals as goal

pub returns-in-Some : goal.returns-in-Some
returns-in-Some c =
    λ k told.
    c.answers_info.ensures k told ∙ ap (spec.answers_info k (where_of c.args.at.now) c.args.m) c.in-Some.ensures
