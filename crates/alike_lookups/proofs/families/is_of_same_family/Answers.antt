use Rattle.std.proofs.Common.{arith, subst}
use Rattle.alike_lookups.specs.Families.{IsStandIn}
use Rattle.alike_lookups.proofs.families.is_of_same_family.Goals as goal

pub returns-then-are_of_one_family : goal.returns-then-are_of_one_family
returns-then-are_of_one_family c h =
    let v = c.args.new.now.world.now in
    subst (λ m. IsStandIn v m c.args.other) c.in-Some.ensures.some (record {
      free = λ f. let is = c.is_fixed.ensures.1 f in cc (is, c.if-is_fixed.false);
      free_other = λ f. let is = c.is_fixed-else-is_fixed.ensures.1 f in cc (is, c.if-is_fixed-2.false);
      family = c.are_of_one_family.ensures c.if-are_of_one_family.true;
      plain = λ k is. c.are_like.ensures h k (((c.family.ensures v c.requires.new.members (omega arith)).0 k).1 is);
    })
