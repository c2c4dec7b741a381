use Rattle.std.proofs.Common.{sym, ◌∙◌}
use Rattle.command_words.proofs.Sets.{any_now}
use Rattle.command_words.proofs.word_set.WordSet.contains.Goals as goal

pub returns : goal.returns
returns c = rw (← c.self.view_is) (c.contains.ensures ∙ sym (any_now c.args.word.now c.self.inside.words.keys))
