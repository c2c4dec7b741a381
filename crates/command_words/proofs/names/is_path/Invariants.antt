use Rattle.std.proofs.Common.{length, ◌↔◌}
use denote.Shadow.{shadow}
use denote.Text.{Utf8}
use Rattle.command_words.specs.Names.{IsPath}
use Rattle.command_words.proofs.names.is_path.Given as goal

abbrev pub invariant-loop-part : goal.invariant-loop-part
invariant-loop-part l = record { same : IsPath l.tail ↔ IsPath l.name; text : shadow (Utf8 l.tail) }

abbrev pub decreases-loop-part : goal.decreases-loop-part
decreases-loop-part l = length l.tail
