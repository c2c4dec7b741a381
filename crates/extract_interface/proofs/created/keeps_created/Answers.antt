use Rattle.std.proofs.Common.{◌∙◌}
use Rattle.extract_interface.proofs.Keeping.{keeps}
use Rattle.extract_interface.proofs.created.keeps_created.Goals as goal

pub returns : goal.returns
returns c =
    keeps c.args.q.now.world.now c.args.source.now c.args.created.now c.args.texts.now c.as_slice.result.now c.in_ok-old.old c.args.q.now.members.now c.in_ok-inserted.inserted c.in_ok-old.ensures.same
    (c.as_slice.ensures ∙ c.in_ok-texts.ensures) c.keeps_with_type.result c.keeps_with_type.ensures
