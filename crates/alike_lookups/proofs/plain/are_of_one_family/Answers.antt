use Rattle.std.proofs.Common.{◌≡◌, sym, subst}
use Rattle.class_world.specs.Overriding.{IsFamily}
use Rattle.alike_lookups.proofs.Lists.{from_test}
use Rattle.alike_lookups.proofs.Plains.{family_on, family_back}
use Rattle.alike_lookups.proofs.plain.are_of_one_family.Goals as goal

pub returns-in-Some-first_of : goal.returns-in-Some-first_of
returns-in-Some-first_of c h =
    let same : c.in-Some.first ≡ c.in-Some-first_of.other = from_test c.in-Some.first c.in-Some-first_of.other h in
    family_on c.in-Some.ensures (family_back (subst (IsFamily c.args.g.now.world.now c.args.k) (sym same) c.in-Some-first_of.ensures))
