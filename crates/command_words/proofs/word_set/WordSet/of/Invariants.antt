use Rattle.std.proofs.Common.{◌≡◌, ℕ, List, map, take}
use Rattle.std.specs.String.{string_bytes}
use Rattle.command_words.specs.Names.{is_among}
use Rattle.command_words.proofs.word_set.WordSet.of.Given as goal

abbrev pub invariant-loop-word : goal.invariant-loop-word
invariant-loop-word l = (w : List ℕ) → is_among w l.set ≡ is_among w (map string_bytes (take l.word-index l.words))
