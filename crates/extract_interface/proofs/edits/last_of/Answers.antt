use Rattle.std.proofs.Common.{◌∙◌}
use Rattle.extract_interface.proofs.Lists.{last_is}
use Rattle.extract_interface.proofs.edits.last_of.Goals as goal

pub returns : goal.returns
returns c = c.last.ensures.value ∙ last_is c.args.types.now
