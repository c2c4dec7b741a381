use Rattle.std.proofs.Common.{◌≡◌, ℕ, ◌<◌, ◌≤◌, ◌==◌, length, Some, slice_get}
use Rattle.generalize_declared.specs.Plans.{file_heads}
use Rattle.generalize_declared.proofs.edits.heads_of.Given as goal

abbrev pub invariant-loop-file : goal.invariant-loop-file
invariant-loop-file l =
    (length l.heads ≡ l.file) × (l.file ≤ l.count)
    × ((i : ℕ) → i < l.file → slice_get l.heads i ≡ Some (file_heads l.changes l.place (i == l.wish.file) (slice_get l.files i)))
