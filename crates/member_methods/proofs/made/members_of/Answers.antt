use Rattle.std.proofs.Common.{refl, arith}
use Rattle.class_world.proofs.Collected.{item_at}
use Rattle.member_methods.specs.Made.{Lists}
use Rattle.member_methods.proofs.Taken.{group_named, with_none, with_next, with_all}
use Rattle.member_methods.proofs.made.members_of.Goals as goal

pub loop-group-init : goal.loop-group-init
loop-group-init c =
    let old = c.args.tables.now in
    record {
      own = c.in_ok-own.ensures;
      made = with_none c.args.w.now c.args.c old.maps.keys c.args.groups.now (Lists old c.args.inherited) c.requires.apart old c.args.inherited c.requires.good (λ k m. (λ x. x, λ x. x));
    }

pub with_group-requires-clause-own : goal.with_group-requires-clause-own
with_group-requires-clause-own c = (c.args.c, c.loop-group.invariant.own)

pub with_group-requires-clause-good : goal.with_group-requires-clause-good
with_group-requires-clause-good c = c.loop-group.invariant.made.good

pub with_group-requires-clause-key : goal.with_group-requires-clause-key
with_group-requires-clause-key c =
    let groups = c.args.groups.now in
    let at = item_at groups groups c.loop-group.group-index c.group-item.result refl c.loop-group-test.true c.group-item.is in
    let small = c.requires.apart.below c.loop-group.group-index c.group-item.result at in
    let same = c.loop-group.invariant.made.keeps.keys in
    omega (arith, small, same)

pub loop-group-preserved : goal.loop-group-preserved
loop-group-preserved c =
    let old = c.args.tables.now in
    let groups = c.args.groups.now in
    let g = c.group-item.result in
    let at = item_at groups groups c.loop-group.group-index g refl c.loop-group-test.true c.group-item.is in
    let named = group_named c.args.w.now c.args.c old.maps.keys groups (Lists old c.args.inherited) c.requires.apart old c.loop-group.tables c.loop-group.map c.loop-group.group-index g at c.loop-group.invariant.made in
    record {
      own = c.loop-group.invariant.own;
      made = with_next c.args.w.now c.args.c old.maps.keys groups (Lists old c.args.inherited) c.requires.apart old c.loop-group.tables c.with_group.new.tables c.loop-group.map c.in_ok-map.map c.loop-group.group-index g at
          c.loop-group.invariant.made (c.in_ok-map.ensures c.args.c c.loop-group.invariant.own named);
    }

pub returns : goal.returns
returns c =
    let old = c.args.tables.now in
    with_all c.args.w.now c.args.c old.maps.keys c.args.groups.now (Lists old c.args.inherited) c.requires.apart old c.loop-group.tables c.loop-group.map c.loop-group.group-index c.loop-group-test.false c.loop-group.invariant.made
