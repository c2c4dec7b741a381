use Rattle.std.proofs.Common.{◌≡◌, drop, map}
use Rattle.java_core.specs.View.{var_plain}
use Rattle.definite_assignment.specs.Bodies as spec
use Rattle.definite_assignment.specs.Variables.{either}
use Rattle.definite_assignment.proofs.locals.add_slots.Given as goal

abbrev pub invariant-loop-var : goal.invariant-loop-var
invariant-loop-var l = either l.xs (spec.slots_of (map var_plain (drop l.var-index l.vars))) ≡ either l.fn.xs (spec.slots_of (map var_plain l.vars))
