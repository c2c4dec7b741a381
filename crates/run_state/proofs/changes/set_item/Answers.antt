-- An item changes in what has the number alone.
use Rattle.core_meaning.specs.State as spec
use Rattle.run_state.proofs.Changed.{changed_set}
use Rattle.run_state.proofs.changes.set_item.Goals as goal

pub returns-then-place-len : goal.returns-then-place-len
returns-then-place-len c =
    let e = changed_set (spec.thing_item c.args.at c.args.value) c.args.array c.args.state.now.heap c.at_mut.result.now c.at_mut.ensures.value in cc
