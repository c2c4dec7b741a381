use Rattle.std.proofs.Common.{get_or, sym, subst, arith}
use Rattle.std.proofs.lemmas.Option.{slice_get-get_or}
use Rattle.class_world.specs.Sequences.{IsSequence}
use Rattle.counted_methods.proofs.Making.{next_new, next_above, next_built, all_built}
use Rattle.counted_methods.proofs.CountedMethods.of.Goals as goal

pub add_type-requires-clause-new : goal.add_type-requires-clause-new
add_type-requires-clause-new c =
    let types = c.as_slice-c-items.result.now in
    let seq = subst (IsSequence c.args.w.now) (sym c.as_slice-c-items.ensures.value) c.in_ok-types.ensures in
    next_new c.args.w.now types c.loop-c.c-index (get_or types c.loop-c.c-index 0) c.loop-c.counted seq (slice_get-get_or types c.loop-c.c-index 0 c.loop-c-test.true) c.loop-c.invariant

pub add_type-requires-clause-above : goal.add_type-requires-clause-above
add_type-requires-clause-above c =
    let types = c.as_slice-c-items.result.now in
    let seq = subst (IsSequence c.args.w.now) (sym c.as_slice-c-items.ensures.value) c.in_ok-types.ensures in
    next_above c.args.w.now types c.loop-c.c-index (get_or types c.loop-c.c-index 0) c.loop-c.counted seq (slice_get-get_or types c.loop-c.c-index 0 c.loop-c-test.true) c.loop-c.invariant

pub loop-c-preserved : goal.loop-c-preserved
loop-c-preserved c =
    let types = c.as_slice-c-items.result.now in
    let seq = subst (IsSequence c.args.w.now) (sym c.as_slice-c-items.ensures.value) c.in_ok-types.ensures in
    let added = c.in_ok-add_type.ensures in
    next_built c.args.w.now types c.loop-c.c-index (get_or types c.loop-c.c-index 0) c.loop-c.counted seq (slice_get-get_or types c.loop-c.c-index 0 c.loop-c-test.true) c.loop-c.invariant c.add_type.new.self
    added.orderly added.done added.others

pub returns : goal.returns
returns c =
    let types = c.as_slice-c-items.result.now in
    let seq = subst (IsSequence c.args.w.now) (sym c.as_slice-c-items.ensures.value) c.in_ok-types.ensures in
    all_built c.args.w.now types c.loop-c.c-index c.loop-c.counted seq (omega (arith, c.loop-c-test.false)) c.loop-c.invariant
