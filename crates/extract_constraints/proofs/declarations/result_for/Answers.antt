use Rattle.std.proofs.Common.{ap, sym}
use Rattle.std.specs.Option.{option_copied}
use Rattle.marked_types.proofs.Forms.{ok_as}
use Rattle.extract_constraints.specs.Declarations as de
use Rattle.extract_constraints.proofs.declarations.result_for.Goals as goal

pub returns-in-Some : goal.returns-in-Some
returns-in-Some c =
    λ k told.
    ok_as c.result_head.result _ _
    (sym (ap (λ o. de.result_for k c.args.t.now (option_copied o) c.args.node c.args.links) c.in-Some.is))
    (c.result_head.ensures k told)
