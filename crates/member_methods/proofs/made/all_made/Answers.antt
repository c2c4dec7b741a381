use Rattle.std.proofs.Common.{refl, sym, ap, ◌∙◌, subst, length, get_or, arith}
use Rattle.std.proofs.lemmas.Option.{slice_get-get_or}
use Rattle.class_world.specs.Sequences.{IsSequence}
use Rattle.member_methods.specs.Made.{IsMaking}
use Rattle.member_methods.proofs.Whole.{next_ready, next_done, object_done, types_done, past_ready, below_next}
use Rattle.member_methods.proofs.made.all_made.Goals as goal
use Rattle.member_methods.proofs.made.all_made.Goals.{then-c-ne0+in_ok-add-2, else-c-ne0}

pub add-requires-clause-making : goal.add-requires-clause-making
add-requires-clause-making c =
    let size = ap length c.as_slice-own.ensures.value ∙ c.in_ok-lists.ensures.size in
    subst (λ n. IsMaking c.args.w.now c.args.keyed.now n c.in_ok-made.made) (sym size) (c.in_ok-made.ensures c.args.w.now c.args.keyed.now refl)

pub add-requires-then-c-ne0-clause-within : goal.add-requires-then-c-ne0-clause-within
add-requires-then-c-ne0-clause-within c =
    let order = c.as_slice-c-items.result.now in
    let seq = subst (IsSequence c.args.w.now) (sym c.as_slice-c-items.ensures.value) c.in_ok-order.ensures in
    let size = ap length c.as_slice-own.ensures.value ∙ c.in_ok-lists.ensures.size in
    let small = seq.known c.loop-c.c-index (get_or order c.loop-c.c-index 0) (slice_get-get_or order c.loop-c.c-index 0 c.loop-c-test.true) in
    let types = c.owner_limit-limit.ensures.limit.types in
    omega (arith, size, small, types)

pub add-requires-then-c-ne0-clause-ready : goal.add-requires-then-c-ne0-clause-ready
add-requires-then-c-ne0-clause-ready c =
    let order = c.as_slice-c-items.result.now in
    let seq = subst (IsSequence c.args.w.now) (sym c.as_slice-c-items.ensures.value) c.in_ok-order.ensures in
    next_ready c.args.w.now c.args.keyed.now c.loop-c.made order c.loop-c.c-index (get_or order c.loop-c.c-index 0) seq (slice_get-get_or order c.loop-c.c-index 0 c.loop-c-test.true) c.loop-c.invariant.done

pub loop-c-preserved : goal.loop-c-preserved
loop-c-preserved c =
    let w = c.args.w.now in
    let keyed = c.args.keyed.now in
    let order = c.as_slice-c-items.result.now in
    let i = c.loop-c.c-index in
    let t = get_or order i 0 in
    let at = slice_get-get_or order i 0 c.loop-c-test.true in
    let size = ap length c.as_slice-own.ensures.value ∙ c.in_ok-lists.ensures.size in
    elim c.if-c-ne0.branch [
      | then-c-ne0+in_ok-add-2 v ↦ rw v.made-is (record {
        making = subst (λ n. IsMaking w keyed n v.add-then-c-ne0.new.self) size v.in_ok-add-2.ensures.making;
        done = next_done w keyed c.loop-c.made v.add-then-c-ne0.new.self order i t at c.loop-c.invariant.done v.in_ok-add-2.ensures.kept v.in_ok-add-2.ensures.done;
      })
      | else-c-ne0 v ↦ rw v.made-is (record { making = c.loop-c.invariant.making; done = object_done w keyed c.loop-c.made order i t at v.if-c-ne0.false c.loop-c.invariant.done })
    ]

pub loop-past-init : goal.loop-past-init
loop-past-init c =
    let order = c.as_slice-c-items.result.now in
    let seq = subst (IsSequence c.args.w.now) (sym c.as_slice-c-items.ensures.value) c.in_ok-order.ensures in
    record {
      making = c.loop-c.invariant.making;
      done = λ d lt. types_done c.args.w.now c.args.keyed.now c.loop-c.made order c.loop-c.c-index seq c.loop-c-test.false c.loop-c.invariant.done d (omega (arith, lt, c.len-past.ensures));
    }

pub add-requires-in-loop-past-clause-ready : goal.add-requires-in-loop-past-clause-ready
add-requires-in-loop-past-clause-ready c = past_ready c.args.w.now c.args.keyed.now c.loop-past.made c.loop-past.past (omega (arith, c.loop-past.auto.past, c.len-past.ensures))

pub loop-past-preserved : goal.loop-past-preserved
loop-past-preserved c =
    let w = c.args.w.now in
    let keyed = c.args.keyed.now in
    let size = ap length c.as_slice-own.ensures.value ∙ c.in_ok-lists.ensures.size in
    record {
      making = subst (λ n. IsMaking w keyed n c.add-in-loop-past.new.self) size c.in_ok-add-3.ensures.making;
      done = below_next w keyed c.loop-past.made c.add-in-loop-past.new.self c.loop-past.past c.loop-past.invariant.done c.in_ok-add-3.ensures.kept c.in_ok-add-3.ensures.done;
    }
