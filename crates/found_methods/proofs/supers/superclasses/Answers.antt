use Rattle.std.proofs.Common.{◌≡◌, length, ap, subst, arith}
use Rattle.class_world.proofs.Collected.{item_at}
use Rattle.method_ties.specs.Sides.{AreAll}
use Rattle.found_methods.proofs.Ranks.{HasSuperclasses, superclasses_hold, superclasses_next}
use Rattle.found_methods.proofs.supers.superclasses.Goals as goal

pub loop-info-preserved : goal.loop-info-preserved
loop-info-preserved c =
    let w = c.args.w.now in
    let items = c.as_slice-info-items.result.now in
    let i = c.loop-info.info-index in
    let info = c.info-item.result in
    superclasses_next w c.loop-info.all.items c.push.new.self.items i info c.in_ok-above.above (item_at items w.types i info c.as_slice-info-items.ensures c.loop-info-test.true c.info-item.is) c.in_ok-above.ensures
    c.in_ok-push.ensures.items c.loop-info.invariant

pub returns : goal.returns
returns c =
    let w = c.args.w.now in
    let size = ap length c.as_slice-info-items.ensures in
    let all : c.loop-info.info-index ≡ length w.types = omega (arith, c.loop-info-test.false, c.loop-info.auto.info-index-end, size) in
    superclasses_hold w c.loop-info.all.items (subst (AreAll (HasSuperclasses w) c.loop-info.all.items) all c.loop-info.invariant)
