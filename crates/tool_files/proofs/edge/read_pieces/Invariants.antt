use Rattle.std.proofs.Common.{◌≡◌, ℕ, ◌+◌, ◌^◌, ◌++◌, List, length, min, vec_len}
use Rattle.std.specs.Io.KnownBytes.{Consumes}
use Rattle.tool_files.proofs.edge.read_pieces.Given as goal

abbrev pub decreases-pieces : goal.decreases-pieces
decreases-pieces g l = l.left

-- what was read, and what is left
abbrev pub invariant-pieces : goal.invariant-pieces
invariant-pieces g l =
    ((more : List ℕ) × (l.into.items ≡ l.initial.into.items ++ more) × (length more + l.left ≡ l.most) × Consumes (g.R.Read.remaining l.initial.file) (g.R.Read.remaining l.file) more)
    × (vec_len l.piece ≡ min l.most (2 ^ 16))
