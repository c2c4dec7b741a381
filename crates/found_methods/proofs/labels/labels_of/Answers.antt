use Rattle.std.proofs.Common.{◌≡◌, length, get_or, subst, arith}
use Rattle.class_world.specs.Overriding as by
use Rattle.method_ties.specs.Sides.{AreAll}
use Rattle.method_ties.proofs.Firsts.{all_push}
use Rattle.found_methods.proofs.Leasts.{IsLeast, some_in, least_is, labels_hold}
use Rattle.found_methods.proofs.labels.labels_of.Goals as goal

pub bounds-family-0 : goal.bounds-family-0
bounds-family-0 c =
    let told = c.family.ensures c.args.w.now c.requires.overrides (omega (arith, c.loop-m-test.true, c.requires.count)) in
    some_in c.family.result.now c.loop-m.m ((told.0 c.loop-m.m).1 by.itself)

pub loop-m-preserved : goal.loop-m-preserved
loop-m-preserved c =
    let w = c.args.w.now in
    let told = c.family.ensures w c.requires.overrides (omega (arith, c.loop-m-test.true, c.requires.count)) in
    all_push (IsLeast w) c.loop-m.labels.items c.push.new.self.items c.loop-m.m (get_or c.family.result.now 0 0) c.loop-m.invariant (least_is w c.loop-m.m c.family.result.now told.0 told.1) c.in_ok-push.ensures.items

pub returns : goal.returns
returns c =
    let w = c.args.w.now in
    let all : c.loop-m.m ≡ length w.methods = omega (arith, c.loop-m-test.false, c.loop-m.auto.m-end, c.requires.count) in
    labels_hold w c.loop-m.labels.items (subst (AreAll (IsLeast w) c.loop-m.labels.items) all c.loop-m.invariant)
