use Rattle.std.proofs.Common.{◌≡◌, ◌++◌, map, take}
use Rattle.std.specs.String.{string_bytes}
use Rattle.java_tree.specs.Names.{AreDistinct}
use Rattle.command_words.proofs.word_set.WordSet.add_new.Given as goal

abbrev pub invariant-loop-word : goal.invariant-loop-word
invariant-loop-word l = record {
  table : l.self ≡ l.fn.self ++ map string_bytes (take l.word-index l.words);
  distinct : AreDistinct l.fn.self → AreDistinct l.self;
}
