-- One more field has its new value.
use Rattle.std.proofs.Common.{◌<◌, length, sym, arith}
use Rattle.std.proofs.lemmas.List.Edits.{map_over_more}
use Rattle.std.proofs.lemmas.Option.{get_or_from_slice_get}
use Rattle.core_meaning.specs.State.{with_value}
use Rattle.run_state.proofs.changes.set_held.Goals as goal

pub loop-i-preserved : goal.loop-i-preserved
loop-i-preserved c =
    let e = get_or_from_slice_get c.loop-i.fields c.loop-i.i c.at_mut.result.now c.at_mut.result.now c.at_mut.ensures.value in
    let within : c.loop-i.i < length c.args.fields.now = omega arith in
    let m = map_over_more (with_value c.args.field c.args.value) c.args.fields.now c.loop-i.fields c.loop-i.i c.at_mut.result.now within c.loop-i.invariant (sym e) in
    cc
