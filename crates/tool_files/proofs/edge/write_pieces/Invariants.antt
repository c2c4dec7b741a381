use Rattle.std.proofs.Common.{◌≡◌, ℕ, ◌++◌, List, length}
use Rattle.std.specs.Io.KnownBytes.{Appends}
use Rattle.tool_files.proofs.edge.write_pieces.Given as goal

abbrev pub decreases-pieces : goal.decreases-pieces
decreases-pieces g l = length l.rest

-- what was written, and what is left
abbrev pub invariant-pieces : goal.invariant-pieces
invariant-pieces g l = (done : List ℕ) × Appends (g.W.Write.contents l.initial.out) (g.W.Write.contents l.out) done × (l.bytes ≡ done ++ l.rest)
