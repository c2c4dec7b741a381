use Rattle.std.specs.String.{string_bytes}
use Rattle.std.proofs.Common.{map}
use Rattle.command_words.proofs.Sets.{not_distinct}
use Rattle.command_words.proofs.rules.are_distinct.Goals as goal

pub returns-then-not-new : goal.returns-then-not-new
returns-then-not-new c = not_distinct c.new-words.result (map string_bytes c.args.first.now) (map string_bytes c.args.second.now) c.in_ok-new.new c.new-words.ensures c.in_ok-new.ensures.new c.if-not-new.true
