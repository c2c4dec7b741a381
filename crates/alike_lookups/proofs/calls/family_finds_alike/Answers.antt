use Rattle.alike_lookups.specs.Lookups.{sides, to_method}
use Rattle.alike_lookups.proofs.Whole.{strictly}
use Rattle.alike_lookups.proofs.calls.family_finds_alike.Goals as goal

pub returns-then-is_family_alike : goal.returns-then-is_family_alike
returns-then-is_family_alike c h j is =
    let x = (sides c.args.old.now c.args.new.now c.args.map.now c.args.strict) in
    strictly x j (to_method x j) (c.is_family_alike.ensures c.if-is_family_alike.true j is)

pub returns : goal.returns
returns c h j is = c.each_finds_alike.ensures h j (((c.family.ensures c.args.old.now.world.now c.requires.old.members c.requires.method).0 j).1 is)
