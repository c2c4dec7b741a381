use Rattle.std.proofs.Common.{sym, ap, ◌∙◌}
use Rattle.std.specs.Option.{option_map}
use Rattle.std.proofs.lemmas.Option.{slice_get-map}
use Rattle.java_core.specs.View.{param_plain}
use Rattle.thrown_exceptions.proofs.Steps.{ok_as, pair}
use Rattle.type_constraints.specs.Asked.{asked}
use Rattle.type_constraints.specs.Declarations as de
use Rattle.type_constraints.proofs.declarations.known_declaration.Goals as goal

pub returns : goal.returns
returns c =
    λ f are ts ties.
    let a = asked c.args.at.now f ts in
    ok_as c.param.result _ _
    (pair (λ o s. de.param a c.args.method.now.method c.args.info.now o s) _ _ _ _ (ap (option_map param_plain) c.get-x.ensures.value ∙ sym (slice_get-map param_plain c.args.method.now.params c.args.at.now.change.now.index)) (c.in_ok-first.ensures f are ts ties))
    (c.param.ensures f are ts ties)
