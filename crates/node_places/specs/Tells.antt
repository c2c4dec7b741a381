-- What a search for a node answers.
use Rattle.std.specs.Prelude.{◌≡◌, ℕ, Option, Some, None}
use Rattle.std.specs.declared.ops.ControlFlow.{ControlFlow}
use Rattle.std.specs.declared.ops.ControlFlow.TheVariants.{Continue, Break}

-- it ends with the first byte of the node, or goes on where there is none
abbrev pub Tells : Option ℕ → ControlFlow ℕ Unit → Type 0
Tells found (Break at) = found ≡ Some at
Tells found (Continue on) = found ≡ None
