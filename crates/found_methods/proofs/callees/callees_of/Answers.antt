use Rattle.std.proofs.Common.{◌≤◌, length, subst}
use Rattle.class_world.proofs.Collected.{item_at}
use Rattle.found_methods.proofs.Numbers.{callees_begin, callees_next, callees_hold}
use Rattle.found_methods.proofs.callees.callees_of.Goals as goal

pub loop-info-init : goal.loop-info-init
loop-info-init c = record {
  apart = λ a b ps qs n h other. absurd (let none = c.new-numbers.ensures.none a ps in cc (none, h));
  callees = callees_begin c.args.w.now c.new-numbers.result c.new-callees.result.items c.new-callees.ensures.items;
}

pub loop-info-preserved : goal.loop-info-preserved
loop-info-preserved c =
    let w = c.args.w.now in
    let items = c.as_slice-info-items.result.now in
    let i = c.loop-info.info-index in
    let info = c.info-item.result in
    record {
      apart = c.in_ok-callee.ensures.apart;
      callees = callees_next w c.loop-info.numbers c.callee_of.new.numbers c.loop-info.callees.items c.push.new.self.items i info c.in_ok-callee.callee c.loop-info.invariant.callees c.in_ok-callee.ensures.kept
          (item_at items w.methods i info c.as_slice-info-items.ensures c.loop-info-test.true c.info-item.is) c.in_ok-callee.ensures.callee c.in_ok-push.ensures.items;
    }

pub returns : goal.returns
returns c =
    callees_hold c.args.w.now c.loop-info.numbers c.loop-info.callees.items c.loop-info.info-index c.loop-info.invariant.apart
    (subst (λ xs. length xs ≤ c.loop-info.info-index) c.as_slice-info-items.ensures c.loop-info-test.false) c.loop-info.invariant.callees
