use Rattle.std.proofs.Common.{None}
use Rattle.type_places.specs.declared.places.Declared.TheVariants as declared
use Rattle.type_places.proofs.Flags.{nowhere, fields_change, with_lists}
use Rattle.type_places.proofs.changing.of_fields.Goals as goal

pub returns : goal.returns
returns c =
    λ w. with_lists w c.args.old (declared.Fields c.args.fields.now) c.args.new 0 None nowhere _ _ _ _ _ _ _ _ c.in_ok-fields.ensures c.new.ensures c.new-2.ensures c.new-3.ensures
    (fields_change w c.args.old c.args.new c.args.fields.now)
