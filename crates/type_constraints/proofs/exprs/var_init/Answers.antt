use Rattle.std.proofs.Common.{sym, ap, ◌∙◌}
use Rattle.std.specs.Option.{option_map}
use Rattle.java_core.specs.View.{plain}
use Rattle.thrown_exceptions.proofs.Steps.{ok_as}
use Rattle.type_constraints.specs.Asked.{asked}
use Rattle.type_constraints.specs.Changed as ch
use Rattle.type_constraints.specs.Constraints as co
use Rattle.type_constraints.proofs.exprs.var_init.Goals as goal

pub returns-in_ok-first-in-Some : goal.returns-in_ok-first-in-Some
returns-in_ok-first-in-Some c =
    λ f are ts ties.
    let a = asked c.args.at.now f ts in
    ok_as c.init.result _ _
    (ap (ch.init a c.args.changes c.args.t.now (plain c.in-Some.x)) (c.in_ok-first-in-Some.ensures f are ts ties) ∙ sym (ap (λ o. co.var_init a c.args.changes c.args.t.now (option_map plain o) c.args.first) c.in-Some.is))
    (c.init.ensures f are ts ties)
