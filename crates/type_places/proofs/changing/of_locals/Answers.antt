use Rattle.std.proofs.Common.{Some}
use Rattle.type_places.specs.declared.places.Declared.TheVariants as declared
use Rattle.type_places.proofs.Flags.{locals_change, with_lists}
use Rattle.type_places.proofs.changing.of_locals.Goals as goal

pub returns : goal.returns
returns c =
    λ w. with_lists w c.args.old (declared.Locals c.args.body c.args.slots.now c.args.scope) c.args.new 0 (Some c.args.body) c.args.scope _ _ _ _ _ _ _ _ c.new.ensures c.new-2.ensures c.new-3.ensures c.in_ok-slots.ensures
    (locals_change w c.args.old c.args.new c.args.body c.args.slots.now c.args.scope)
