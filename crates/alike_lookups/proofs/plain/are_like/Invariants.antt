use Rattle.std.proofs.Common.{ℕ, ◌<◌, get_or}
use Rattle.alike_lookups.specs.Families.{IsLike}
use Rattle.alike_lookups.proofs.plain.are_like.Given as goal

abbrev pub invariant-loop-method : goal.invariant-loop-method
invariant-loop-method l = (j : ℕ) → j < l.method-index → IsLike l.w (get_or l.methods j 0) l.first
