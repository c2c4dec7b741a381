use Rattle.std.proofs.Common.{ap, length, arith}
use Rattle.class_world.proofs.Collected.{item_at}
use Rattle.member_methods.specs.Keys.{found_in}
use Rattle.member_methods.proofs.Numbers.{next_before, all_before}
use Rattle.member_methods.proofs.keys.keyed.Goals as goal

pub loop-info-preserved : goal.loop-info-preserved
loop-info-preserved c =
    next_before c.args.w.now (found_in c.loop-info.keys) (found_in c.number_of.new.keys) c.loop-info.keyed.items c.push.new.self.items c.loop-info.info-index c.in_ok-number.number c.len-in-loop-info.result
    c.key_of.result c.info-item.result c.loop-info.invariant (item_at _ _ _ _ c.as_slice-info-items.ensures c.loop-info-test.true c.info-item.is)
    (omega (arith, c.len-in-loop-info.ensures, c.loop-info.keyed.ok.0, c.loop-info.invariant.size)) c.key_of.ensures c.in_ok-number.ensures.found c.in_ok-number.ensures.kept c.in_ok-number.ensures.only c.in_ok-push.ensures.items

pub returns-clause-keys : goal.returns-clause-keys
returns-clause-keys c = all_before c.args.w.now (found_in c.loop-info.keys) c.loop-info.keyed.items c.loop-info.info-index
    (let all = ap length c.as_slice-info-items.ensures in omega (arith, c.loop-info-test.false, c.loop-info.auto.info-index-end, all)) c.loop-info.invariant

pub returns-clause-few : goal.returns-clause-few
returns-clause-few c = let all = ap length c.as_slice-info-items.ensures in omega (arith, c.loop-info.auto.info-index-end, all, c.loop-info.invariant.size, c.if-len.false, c.len.ensures)
