use Rattle.std.proofs.Common.{◌≡◌, ◌++◌, map, drop}
use Rattle.std.specs.String.{string_bytes}
use Rattle.generalize_declared.specs.Allowed.{word_of}
use Rattle.generalize_declared.proofs.allowed.push_words.Given as goal

abbrev pub invariant-loop-number : goal.invariant-loop-number
invariant-loop-number l = map string_bytes l.words ++ map (word_of l.names l.w) (drop l.number-index l.types) ≡ map string_bytes l.fn.words ++ map (word_of l.names l.w) l.types
