use Rattle.std.proofs.Common.{◌≡◌, ◌++◌, drop}
use Rattle.thrown_exceptions.proofs.state.put_before.Given as goal

abbrev pub invariant-loop-exception : goal.invariant-loop-exception
invariant-loop-exception l = l.raised ++ drop l.exception-index l.later ≡ l.initial.raised ++ l.later
