-- Unmet constraints, in their order: by node, and then by kind.
use Rattle.std.specs.Prelude.{ℕ, Bool, true, false, ◌&&◌, ◌||◌, nat_lt, ◌==◌, Option, Some, None, if◌then◌else◌}
use Rattle.type_constraints.specs.declared.unmet.Constraint.{Constraint}
use Rattle.type_constraints.specs.declared.unmet.Constraint.TheVariants as kind
use Rattle.type_constraints.specs.declared.unmet.Unmet.{Unmet}

abbrev pub rank : Constraint → ℕ
rank kind.Assign = 0
rank kind.Member = 1
rank kind.Field = 2
rank kind.Override = 3
rank kind.Overload = 4
rank kind.Result = 5
rank kind.Throws = 6
rank kind.Arm = 7

abbrev pub is_before : Unmet → Unmet → Bool
is_before a b = nat_lt a.node b.node || ((a.node == b.node) && nat_lt (rank a.kind) (rank b.kind))

abbrev pub earlier : Option Unmet → Option Unmet → Option Unmet
earlier None b = b
earlier (Some x) None = Some x
earlier (Some x) (Some y) = if is_before y x then Some y else Some x

abbrev pub noted : (node : ℕ) → Constraint → Option Unmet → Option Unmet
noted n k first = earlier first (Some (record { kind = k; node = n }))

-- what is first once it turned out whether a constraint is met at a node
abbrev pub unless : (met : Bool) → (node : ℕ) → Constraint → Option Unmet → Option Unmet
unless true n k first = first
unless false n k first = noted n k first
