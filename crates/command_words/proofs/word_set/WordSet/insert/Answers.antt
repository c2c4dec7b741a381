use Rattle.std.proofs.Common.{not, ap, sym, ◌∙◌}
use Rattle.command_words.proofs.Sets.{any_now, key_inserted}
use Rattle.command_words.proofs.word_set.WordSet.insert.Goals as goal

pub returns-clause-new : goal.returns-clause-new
returns-clause-new c = rw (← c.self.view_is) (c.in_ok-insert.ensures.added ∙ ap not (sym (any_now c.args.word.now c.self.inside.words.keys)))

pub returns-clause-table : goal.returns-clause-table
returns-clause-table c = rw (← c.self.view_is) (key_inserted c.args.word c.self.inside.words.keys c.insert.new.self.keys c.in_ok-insert.ensures.keys)
