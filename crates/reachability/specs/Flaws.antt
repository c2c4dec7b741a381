-- Broken rules on flow, in their order: by node, and then by number.
use Rattle.std.specs.Prelude.{ℕ, Bool, ◌&&◌, ◌||◌, nat_lt, ◌==◌, Option, Some, None, if◌then◌else◌}
use Rattle.reachability.specs.declared.flaw.Flaw.{Flaw}

abbrev pub is_before : Flaw → Flaw → Bool
is_before a b = nat_lt a.node b.node || ((a.node == b.node) && nat_lt a.rule b.rule)

abbrev pub earlier : Option Flaw → Option Flaw → Option Flaw
earlier None b = b
earlier (Some x) None = Some x
earlier (Some x) (Some y) = if is_before y x then Some y else Some x

abbrev pub noted : (node rule : ℕ) → Option Flaw → Option Flaw
noted n r first = earlier first (Some (record { node = n; rule = r }))
