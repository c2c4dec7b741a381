use Rattle.std.proofs.Common.{nat_eq}
use Rattle.std.specs.HashMap.{get}
use Rattle.member_methods.proofs.Groups.{ArePlaced, HaveKeys, GroupsFirst}
use Rattle.member_methods.proofs.own.groups.Given as goal

abbrev pub invariant-loop-m : goal.invariant-loop-m
invariant-loop-m l = record {
  places : ArePlaced (get nat_eq l.places) l.groups.items;
  keys : HaveKeys l.keyed l.groups.items;
  has : GroupsFirst l.keyed l.own l.groups.items l.m-index;
}
