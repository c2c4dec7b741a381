-- How an expression is used.
use Rattle.std.specs.Prelude.{Bool, true, false}
use Rattle.operator_rules.specs.declared.uses.Use.{Use}
use Rattle.operator_rules.specs.declared.uses.Use.TheVariants as use_

-- its value is read
abbrev pub is_read : Use → Bool
is_read use_.Set = false
is_read _ = true

-- it is assigned
abbrev pub is_set : Use → Bool
is_set use_.Set = true
is_set use_.Change = true
is_set _ = false

-- nobody reads what it answers
abbrev pub is_performed : Use → Bool
is_performed use_.Perform = true
is_performed use_.PerformFirst = true
is_performed _ = false

-- the use of what stands in brackets
abbrev pub within : Use → Use
within use_.Set = use_.Set
within use_.Change = use_.Change
within _ = use_.Read
