use Rattle.std.proofs.Common.{sym, ap, ◌∙◌}
use Rattle.std.specs.Prelude.{◌&&◌}
use Rattle.java_core.specs.View.{plain}
use Rattle.type_kinds.specs.Kinds.{is_string}
use Rattle.thrown_exceptions.proofs.Forms.{ty_at}
use Rattle.thrown_exceptions.proofs.Steps.{ok_as}
use Rattle.type_constraints.specs.Asked.{asked}
use Rattle.type_constraints.specs.Changed as ch
use Rattle.type_constraints.proofs.flows.is_changed_string.Goals as goal

pub returns-then-is_string : goal.returns-then-is_string
returns-then-is_string c =
    λ f are ts ties.
    let a = asked c.args.at.now f ts in
    ok_as c.changed.result _ _
    (ap (λ b. b && ch.changed a (plain c.args.x.now)) (sym c.if-is_string.true ∙ c.is_string.ensures ∙ ap is_string (ty_at c.args.x.now)))
    (c.changed.ensures f are ts ties)
