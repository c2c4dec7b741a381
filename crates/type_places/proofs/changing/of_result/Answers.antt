use Rattle.std.proofs.Common.{None}
use Rattle.type_places.specs.declared.places.Declared.TheVariants as declared
use Rattle.type_places.proofs.Flags.{nowhere, result_change, with_lists}
use Rattle.type_places.proofs.changing.of_result.Goals as goal

pub returns : goal.returns
returns c =
    λ w. with_lists w c.args.old (declared.Result c.args.method) c.args.new 0 None nowhere _ _ _ _ _ _ _ _ c.new.ensures c.in_ok-results.ensures c.new-2.ensures c.new-3.ensures
    (result_change w c.args.old c.args.new c.args.method)
