use Rattle.std.proofs.Common.{true, below_more, get_or, arith}
use Rattle.alike_lookups.specs.Lookups.{sides}
use Rattle.alike_lookups.specs.Families.{IsCovered}
use Rattle.alike_lookups.proofs.Lists.{each_in}
use Rattle.alike_lookups.proofs.families.are_covered.Goals as goal

pub loop-member-preserved : goal.loop-member-preserved
loop-member-preserved c =
    below_more (λ i. IsCovered (sides c.args.old.now c.args.new.now c.args.map.now true) c.args.method (get_or c.args.family.now i 0)) c.loop-member.member-index c.loop-member.invariant (c.is_covered.ensures c.if-not-is_covered.false)

pub returns : goal.returns
returns c h = each_in (IsCovered (sides c.args.old.now c.args.new.now c.args.map.now true) c.args.method) c.args.family.now c.loop-member.member-index (omega arith) c.loop-member.invariant
