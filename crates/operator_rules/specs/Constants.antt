-- Literals (JLS 3.10, 15.8.1).
use Rattle.std.specs.Prelude.{ℕ, ℤ, pos, ◌-◌, ◌-ℤ◌, ◌^◌, Bool, true, false, ◌||◌, ◌&&◌, nat_lt, nat_eq, if◌then◌else◌}
use Rattle.java_tree.specs.declared.tree.Node.{Node}
use Rattle.java_core.specs.Plain as p
use Rattle.type_kinds.specs.Kinds.{int, long}
use Rattle.checked.specs.Checked.{Checked, Fine, under}

-- T18, T19: a decimal literal is below half of what its type's bits hold, or that under a minus; another below all of it
abbrev pub is_in_range : (bits : ℕ) → (decimal minus : Bool) → ℕ → Bool
is_in_range bits true minus k = nat_lt k (2 ^ (bits - 1)) || (minus && nat_eq k (2 ^ (bits - 1)))
is_in_range bits false minus k = nat_lt k (2 ^ bits)

-- a number of so many bits, the upper half as what is below zero
abbrev pub wrapped : (bits : ℕ) → ℕ → ℤ
wrapped bits k = if nat_lt k (2 ^ (bits - 1)) then pos k else pos k -ℤ pos (2 ^ bits)

-- `minus` says that it stands under a minus.
abbrev pub number : Node → ℕ → (decimal long minus : Bool) → Checked p.Expr
number n k decimal true minus = under (is_in_range 64 decimal minus k) n.id 19 (Fine (p.At n long (p.Long (wrapped 64 k))))
number n k decimal false minus = under (is_in_range 32 decimal minus k) n.id 18 (Fine (p.At n int (p.Int (wrapped 32 k))))
