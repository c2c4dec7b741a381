use Rattle.std.proofs.Common.{◌≢◌, ℕ, ◌<◌}
use Rattle.std.specs.List.{HoldsAt}
use Rattle.tool_files.specs.Pool.{part_of}
use Rattle.tool_files.proofs.mem.place_of.Given as goal

-- no entry so far has the name
abbrev pub invariant-loop-i : goal.invariant-loop-i
invariant-loop-i l = (k : ℕ) → k < l.i → HoldsAt (λ e. part_of l.pool e.name ≢ l.name) l.entries k
