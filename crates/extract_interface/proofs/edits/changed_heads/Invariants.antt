use Rattle.std.proofs.Common.{◌≡◌, ◌++◌, drop}
use Rattle.extract_interface.specs.Plans.{changed_heads}
use Rattle.extract_interface.proofs.edits.changed_heads.Given as goal

abbrev pub invariant-loop-place : goal.invariant-loop-place
invariant-loop-place l = l.heads ++ changed_heads l.kept (drop l.place-index l.places) ≡ changed_heads l.kept l.places
