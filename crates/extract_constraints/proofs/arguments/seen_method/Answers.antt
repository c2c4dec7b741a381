use Rattle.std.proofs.Common.{ap}
use Rattle.marked_types.proofs.Forms.{ok_as}
use Rattle.type_facts.specs.Members as ms
use Rattle.extract_constraints.proofs.arguments.seen_method.Goals as goal

pub returns : goal.returns
returns c =
    λ k told.
    ok_as c.seen_by.result _ _
    (ap (ms.seen_by k.facts c.args.t.now c.args.info.now.owner) c.is_static.ensures)
    (c.seen_by.ensures k.facts told.facts)
