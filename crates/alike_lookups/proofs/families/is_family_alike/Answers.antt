use Rattle.std.proofs.Common.{◌≡◌, true, subst, arith}
use Rattle.alike_lookups.specs.Lookups.{sides, to_method}
use Rattle.alike_lookups.specs.Families.{IsFamilyAlike}
use Rattle.alike_lookups.proofs.Whole.{family_alike}
use Rattle.alike_lookups.proofs.families.is_family_alike.Goals as goal

pub returns : goal.returns
returns c h =
    let x = (sides c.args.old.now c.args.new.now c.args.map.now true) in
    let m = c.args.method in
    let listed = (c.family-family.ensures c.args.old.now.world.now c.requires.old.members c.requires.method).0 in
    let listed_new = (c.family-family_new.ensures c.args.new.now.world.now c.requires.new.members (omega arith)).0 in
    let same : c.in-Some.to ≡ to_method x m = c.in-Some.ensures.some in
    let alike : IsFamilyAlike x m c.in-Some.to = record {
      plain = λ k is. c.are_like.ensures c.if-not-are_like.false k ((listed k).1 is);
      plain_new = λ k is. c.are_like-2.ensures c.if-not-are_like-2.false k ((listed_new k).1 is);
      members = λ j is. c.are_members_alike.ensures c.if-not-are_members_alike.false j ((listed j).1 is);
      covered = λ k is. c.are_covered.ensures h k ((listed_new k).1 is);
    } in
    family_alike x m (subst (IsFamilyAlike x m) same alike) c.requires.ups
