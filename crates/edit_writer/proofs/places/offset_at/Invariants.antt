use Rattle.std.proofs.Common.{◌≡◌, ℕ, ◌+◌, ◌<◌, ◌≤◌, length}
use Rattle.edit_writer.specs.Places.{place_from, place_at}
use Rattle.edit_writer.proofs.places.offset_at.Given as goal

abbrev pub decreases-bytes : goal.decreases-bytes
decreases-bytes l = length l.rest

abbrev pub invariant-bytes : goal.invariant-bytes
invariant-bytes l = record {
  here : (p : ℕ) → place_from l.at.line l.at.col l.rest p ≡ place_at l.text (l.offset + p);
  none : (q : ℕ) → q < l.offset → place_at l.text q ≡ l.place → ⊥;
  within : l.offset + length l.rest ≡ length l.text;
  line : l.at.line ≤ l.offset + 1;
  col : l.at.col ≤ l.offset + 1;
}
