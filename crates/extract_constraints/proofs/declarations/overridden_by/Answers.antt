use Rattle.std.proofs.Common.{ap}
use Rattle.std.specs.Prelude.{filter}
use Rattle.marked_types.proofs.Forms.{ok_as}
use Rattle.extract_constraints.proofs.declarations.overridden_by.Goals as goal

pub returns : goal.returns
returns c =
    λ k told.
    ok_as c.overridden_among.result _ _
    (ap (filter (k.ties.overrides c.args.m)) (c.family.ensures k told))
    (c.overridden_among.ensures k told)
