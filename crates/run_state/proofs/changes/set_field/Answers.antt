-- A field changes in what has the number alone.
use Rattle.core_meaning.specs.State as spec
use Rattle.run_state.proofs.Changed.{changed_set}
use Rattle.run_state.proofs.changes.set_field.Goals as goal

pub returns-then-at-len : goal.returns-then-at-len
returns-then-at-len c =
    let e = changed_set (spec.thing_with c.args.field c.args.value) c.args.object c.args.state.now.heap c.at_mut.result.now c.at_mut.ensures.value in cc
