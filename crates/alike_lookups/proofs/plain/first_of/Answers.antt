use Rattle.std.proofs.Common.{◌∙◌, arith}
use Rattle.alike_lookups.proofs.Plains.{first_told}
use Rattle.alike_lookups.proofs.plain.first_of.Goals as goal

pub returns : goal.returns
returns c =
    let w = c.args.g.now.world.now in
    first_told w c.args.m c.family.result.now c.copied.result (c.copied.ensures ∙ c.first.ensures.value) ((c.family.ensures w c.requires.members (omega arith)).0)
