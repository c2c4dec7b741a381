use Rattle.std.proofs.Common.{◌≡◌, ◌+◌, ◌≤◌, length}
use Rattle.edit_writer.specs.Places.{place_from, place_at}
use Rattle.edit_writer.proofs.places.place_at.Given as goal

abbrev pub decreases-bytes : goal.decreases-bytes
decreases-bytes l = length l.rest

abbrev pub invariant-bytes : goal.invariant-bytes
invariant-bytes l = record {
  same : place_from l.at.line l.at.col l.rest l.left ≡ place_at l.text l.offset;
  within : l.left ≤ length l.rest;
  line : l.at.line + length l.rest ≤ length l.text + 1;
  col : l.at.col + length l.rest ≤ length l.text + 1;
}
