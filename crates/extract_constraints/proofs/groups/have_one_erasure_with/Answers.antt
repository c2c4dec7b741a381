use Rattle.std.proofs.Common.{ap}
use Rattle.marked_types.proofs.Forms.{ok_as}
use Rattle.extract_constraints.specs.Groups as spec
use Rattle.extract_constraints.proofs.groups.have_one_erasure_with.Goals as goal

pub returns-in-Some : goal.returns-in-Some
returns-in-Some c =
    λ k told.
    ok_as c.have_one_erasure.result _ _
    (ap (spec.have_one_erasure_with k c.args.info.now) c.in-Some.ensures)
    (c.have_one_erasure.ensures k told)
