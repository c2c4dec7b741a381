use Rattle.std.proofs.Common.{◌≡◌, ◌+◌, ◌++◌, ℕ, map, drop, take, length}
use Rattle.java_core.specs.View.{param_plain}
use Rattle.check_program.specs.Classes as spec
use Rattle.check_program.proofs.methods.scope_of.Given as goal

abbrev pub invariant-loop-x : goal.invariant-loop-x
invariant-loop-x l = l.locals ≡ map spec.in_scope (map param_plain (take l.x-index l.params))
