use Rattle.std.proofs.Common.{◌≡◌, ℕ, List, map, take}
use Rattle.std.specs.String.{string_bytes}
use Rattle.command_words.specs.Names.{is_among, folder_of}
use Rattle.command_words.proofs.word_set.WordSet.of_folders.Given as goal

abbrev pub invariant-loop-file : goal.invariant-loop-file
invariant-loop-file l = (w : List ℕ) → is_among w l.set ≡ is_among w (map (λ file. folder_of (string_bytes file)) (take l.file-index l.files))
