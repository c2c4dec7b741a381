use Rattle.std.proofs.Common.{◌≡◌, ℕ, ◌<◌, length, slice_get}
use Rattle.extract_interface.specs.Plans.{HasEdits}
use Rattle.extract_interface.proofs.edits.all_edits.Given as goal

abbrev pub invariant-loop-file : goal.invariant-loop-file
invariant-loop-file l = (length l.all ≡ l.file) × ((i : ℕ) → i < l.file → HasEdits l.word l.plan l.kept i (slice_get l.files i) (slice_get l.all i))
