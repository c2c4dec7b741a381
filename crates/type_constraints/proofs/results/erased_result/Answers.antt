use Rattle.std.proofs.Common.{ap}
use Rattle.std.specs.Option.{option_map}
use Rattle.class_world.specs.Types.{erased}
use Rattle.thrown_exceptions.proofs.Steps.{ok_as}
use Rattle.type_constraints.proofs.results.erased_result.Goals as goal

pub returns : goal.returns
returns c = λ f are t ties. ok_as c.erased_option.result _ _ (ap (option_map erased) (c.in_ok-after.ensures f are t ties)) c.erased_option.ensures
