use Rattle.std.proofs.Common.{sym, ap, ◌∙◌}
use Rattle.std.specs.Option.{option_map}
use Rattle.java_core.specs.View.{plain}
use Rattle.type_kinds.specs.Members.{field_at}
use Rattle.thrown_exceptions.proofs.Steps.{ok_as}
use Rattle.type_constraints.specs.Asked.{asked}
use Rattle.type_constraints.specs.Changed as ch
use Rattle.type_constraints.specs.Constraints as co
use Rattle.type_constraints.proofs.program.in_field.Goals as goal

pub returns-in_ok-first-in-Some : goal.returns-in_ok-first-in-Some
returns-in_ok-first-in-Some c =
    λ f are ts ties.
    let a = asked c.args.at.now f ts in
    ok_as c.field_init.result _ _
    (ap (ch.field_init a c.args.field (field_at c.args.at.now.q.world.now c.args.field) (plain c.in-Some.x)) (c.in_ok-first-in-Some.ensures f are ts ties) ∙ sym (ap (λ o. co.in_field a c.args.field (option_map plain o) c.args.first) c.in-Some.is))
    (c.field_init.ensures f are ts ties)
