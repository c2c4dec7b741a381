use Rattle.std.proofs.Common.{ap, sym}
use Rattle.marked_types.proofs.Forms.{ok_as}
use Rattle.extract_constraints.specs.Arguments as ar
use Rattle.extract_constraints.proofs.arguments.takes_alike.Goals as goal

pub returns-in-Some : goal.returns-in-Some
returns-in-Some c =
    λ k told.
    ok_as c.takes_type.result _ _
    (sym (ap (ar.takes_alike k c.args.old.now c.args.s.now c.args.place) c.in-Some.is))
    (c.takes_type.ensures k told)
