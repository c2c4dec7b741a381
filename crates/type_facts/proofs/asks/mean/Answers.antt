use Rattle.std.proofs.Common.{sym, ◌∙◌}
use Rattle.type_facts.proofs.asks.mean.Goals as goal

pub returns : goal.returns
returns c = λ f are. c.meant.ensures are.java are.files are.file are.stands are.at ∙ sym (are.mean c.args.name)
