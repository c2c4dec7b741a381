use Rattle.std.proofs.Common.{nat_eq, get_or, arith}
use Rattle.std.specs.HashMap.{get}
use Rattle.std.proofs.lemmas.List.Elements.{Contains-get_or}
use Rattle.std.proofs.lemmas.Option.{slice_get-get_or}
use Rattle.member_methods.proofs.Groups.{keys_next, groups_next, groups_all}
use Rattle.member_methods.proofs.own.groups.Goals as goal

pub bounds-keyed-m : goal.bounds-keyed-m
bounds-keyed-m c = c.requires _ (Contains-get_or c.args.own.now c.loop-m.m-index 0 c.loop-m-test.true)

pub loop-m-preserved : goal.loop-m-preserved
loop-m-preserved c =
    let own = c.args.own.now in
    let keyed = c.args.keyed.now in
    let m = get_or own c.loop-m.m-index 0 in
    let at = slice_get-get_or own c.loop-m.m-index 0 c.loop-m-test.true in
    let is = slice_get-get_or keyed m 0 (c.requires m (Contains-get_or own c.loop-m.m-index 0 c.loop-m-test.true)) in
    record {
      places = c.in_ok-add_to_group.ensures.places;
      keys = keys_next keyed c.loop-m.groups.items c.add_to_group.new.groups.items m (get_or keyed m 0) c.loop-m.invariant.keys is c.in_ok-add_to_group.ensures.keys;
      has = groups_next keyed own c.loop-m.groups.items c.add_to_group.new.groups.items c.loop-m.m-index m (get_or keyed m 0) c.loop-m.invariant.has at is c.in_ok-add_to_group.ensures.has;
    }

pub returns : goal.returns
returns c = groups_all (get nat_eq c.loop-m.places) c.args.keyed.now c.args.own.now c.loop-m.groups.items c.loop-m.m-index (omega arith) c.loop-m.invariant.places c.loop-m.invariant.keys c.loop-m.invariant.has
