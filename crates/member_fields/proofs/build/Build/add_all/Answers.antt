use Rattle.std.proofs.Common.{ℕ, ◌<◌, ◌≤◌, ◌↔◌, length, subst, sym, arith}
use Rattle.std.specs.Prelude.{Contains}
use Rattle.member_fields.specs.Own.{Owns}
use Rattle.member_fields.specs.Built.{IsDone}
use Rattle.member_fields.proofs.Turns as turn
use Rattle.member_fields.proofs.build.Build.add_all.Goals as goal

pub add-requires-clause-own : goal.add-requires-clause-own
add-requires-clause-own c =
    let some : 0 < length c.args.own.now = grind (arith, c.is_empty.ensures, c.if-not-is_empty.true) in
    turn.own_read c.args.w.now c.args.own.now 0 c.index-own-0.result c.as_slice.result.now c.requires.own some c.index-own-0.is c.as_slice.ensures

pub bounds-own-c : goal.bounds-own-c
bounds-own-c c = turn.within c.args.w.now c.args.own.now c.args.order.now c.requires.sound c.requires.own c.requires.order c.loop-c.c-index c.loop-c-test.true

pub add-requires-in-loop-c-clause-own : goal.add-requires-in-loop-c-clause-own
add-requires-in-loop-c-clause-own c =
    let lt = turn.within c.args.w.now c.args.own.now c.args.order.now c.requires.sound c.requires.own c.requires.order c.loop-c.c-index c.loop-c-test.true in
    turn.own_read c.args.w.now c.args.own.now _ c.index-own-c.result c.as_slice-in-loop-c.result.now c.requires.own lt c.index-own-c.is c.as_slice-in-loop-c.ensures

pub add-requires-in-loop-c-clause-members : goal.add-requires-in-loop-c-clause-members
add-requires-in-loop-c-clause-members c =
    turn.members_within c.args.w.now c.args.own.now c.args.order.now c.requires.sound c.requires.own c.requires.order c.loop-c.c-index c.loop-c-test.true c.loop-c.self
    (c.requires.sized.0, c.loop-c.invariant.sized c.requires.sized.0 c.requires.sized.1)

pub add-requires-in-loop-c-clause-handed : goal.add-requires-in-loop-c-clause-handed
add-requires-in-loop-c-clause-handed c =
    turn.handed_within c.args.w.now c.args.own.now c.args.order.now c.requires.sound c.requires.own c.requires.order c.loop-c.c-index c.loop-c-test.true c.loop-c.self
    (c.requires.sized.0, c.loop-c.invariant.sized c.requires.sized.0 c.requires.sized.1)

pub add-requires-in-loop-c-clause-above : goal.add-requires-in-loop-c-clause-above
add-requires-in-loop-c-clause-above c =
    turn.ready c.args.w.now c.args.own.now c.args.order.now c.requires.sound c.requires.own c.requires.order c.loop-c.c-index c.loop-c-test.true c.loop-c.self c.loop-c.invariant.top c.loop-c.invariant.done

pub loop-c-preserved : goal.loop-c-preserved
loop-c-preserved c =
    let step = c.in_ok-add-2.ensures in
    record {
      sized = λ names s. step.grows.sized names _ (c.loop-c.invariant.sized names s);
      top = λ some. step.grows.done 0 (c.loop-c.invariant.top some);
      done = turn.done_next c.args.w.now c.args.own.now c.args.order.now c.requires.sound c.requires.own c.requires.order c.loop-c.c-index c.loop-c-test.true c.loop-c.self c.add-in-loop-c.new.self step.grows step.done
          c.loop-c.invariant.done;
    }

pub loop-extra-init : goal.loop-extra-init
loop-extra-init c = record {
  sized = c.loop-c.invariant.sized;
  done = λ d below. turn.all_done c.args.w.now c.args.order.now c.loop-c.self c.loop-c.c-index c.requires.order c.loop-c-test.false c.loop-c.invariant.done d (omega (arith, below, c.len-extra.ensures));
}

pub add-requires-in-loop-extra-clause-own : goal.add-requires-in-loop-extra-clause-own
add-requires-in-loop-extra-clause-own c =
    let number = c.in-Ok.ensures.1 in
    let read = turn.own_read c.args.w.now c.args.own.now c.loop-extra.extra c.index-own-extra.result c.as_slice-in-loop-extra.result.now c.requires.own
    (omega (arith, c.loop-extra-test.true)) c.index-own-extra.is c.as_slice-in-loop-extra.ensures in
    subst (λ d. (f : ℕ) → Contains c.as_slice-in-loop-extra.result.now f ↔ Owns c.args.w.now d f) (sym number) read

pub add-requires-in-loop-extra-clause-above : goal.add-requires-in-loop-extra-clause-above
add-requires-in-loop-extra-clause-above c = λ s above.
    let past : length c.args.w.now.types ≤ c.in-Ok.number = omega (arith, c.in-Ok.ensures.1, c.len-extra.ensures, c.loop-extra.auto.extra) in
    absurd (turn.nothing_above c.args.w.now c.requires.sound c.in-Ok.number s past above)

pub loop-extra-preserved : goal.loop-extra-preserved
loop-extra-preserved c =
    let step = c.in_ok-add-3.ensures in
    let this = subst (IsDone c.args.w.now c.add-in-loop-extra.new.self) c.in-Ok.ensures.1 step.done in
    record {
      sized = λ names s. step.grows.sized names _ (c.loop-extra.invariant.sized names s);
      done = turn.extra_next c.args.w.now c.loop-extra.self c.add-in-loop-extra.new.self c.loop-extra.extra step.grows this c.loop-extra.invariant.done;
    }
