use Rattle.std.proofs.Common.{◌∙◌}
use Rattle.interface_text.proofs.Order.{among}
use Rattle.interface_text.proofs.lists.is_among.Goals as goal

pub returns : goal.returns
returns c = c.is_ok.ensures.value ∙ among c.args.xs.now c.args.x c.binary_search.result c.requires c.binary_search.ensures.position
