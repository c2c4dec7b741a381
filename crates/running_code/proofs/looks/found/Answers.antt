use Rattle.std.proofs.Common.{subst}
use Rattle.class_world.specs.Overriding.{FoundIs}
use Rattle.running_code.proofs.Lookups.{same_found}
use Rattle.running_code.proofs.looks.found.Goals as goal

pub returns : goal.returns
returns c =
    λ code told.
    let w = c.args.g.now.world.now in
    let m = c.args.method in
    let k = c.args.class in
    same_found w told.single m k c.lookup.result (code.found m k) (c.lookup.ensures w c.requires.members)
    (subst (λ w. FoundIs w m k (code.found m k)) told.world (told.told.found m k))
