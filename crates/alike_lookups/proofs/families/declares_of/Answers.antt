use Rattle.alike_lookups.proofs.Lists.{from_test}
use Rattle.alike_lookups.proofs.Plains.{declares_found}
use Rattle.alike_lookups.proofs.families.declares_of.Goals as goal

pub returns-in-Some-method_of : goal.returns-in-Some-method_of
returns-in-Some-method_of c h =
    let w = c.args.old.now.world.now in
    let info = c.in-Some-method_of.info.now in
    declares_found w c.args.method c.args.class c.in-Some.found info (λ f. let is = c.is_fixed.ensures.1 f in cc (is, c.if-is_fixed.false))
    (c.in-Some.ensures w c.requires.members) c.in-Some-method_of.ensures.some (from_test info.owner c.args.class h)
