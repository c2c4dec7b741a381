use Rattle.std.proofs.Common.{◌≡◌, ℕ, List, map}
use Rattle.std.specs.String.{string_bytes}
use Rattle.extract_interface.proofs.Firsts.{AreNone}
use Rattle.extract_interface.proofs.declared.is_file.Given as goal

abbrev pub invariant-loop-file : goal.invariant-loop-file
invariant-loop-file l = AreNone (λ (word : List ℕ). word ≡ l.name) (map string_bytes l.files) l.file-index
