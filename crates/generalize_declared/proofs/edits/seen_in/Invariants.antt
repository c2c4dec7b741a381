use Rattle.std.proofs.Common.{◌≡◌, ℕ, ◌<◌, ◌≤◌, length, Some, slice_get}
use Rattle.type_facts.specs.Facts.{Facts}
use Rattle.unchecked_ops.specs.Programs.{AreFileFacts}
use Rattle.generalize_declared.specs.Plans.{is_seen}
use Rattle.generalize_declared.proofs.edits.seen_in.Given as goal

abbrev pub invariant-loop-file : goal.invariant-loop-file
invariant-loop-file l =
    (length l.seen ≡ l.file) × (l.file ≤ l.count)
    × ((fs : ℕ → Facts) → AreFileFacts l.q l.count fs → (i : ℕ) → i < l.file → slice_get l.seen i ≡ Some (is_seen (fs i) l.name l.target))
