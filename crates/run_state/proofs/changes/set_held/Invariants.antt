-- The fields so far have their new values, the others the old ones.
use Rattle.std.proofs.Common.{◌≡◌, ◌++◌, map, take, drop}
use Rattle.core_meaning.specs.State.{with_value}
use Rattle.run_state.proofs.changes.set_held.Given as goal

abbrev pub invariant-loop-i : goal.invariant-loop-i
invariant-loop-i l = l.fields ≡ map (with_value l.field l.value) (take l.i l.initial.fields) ++ drop l.i l.initial.fields
