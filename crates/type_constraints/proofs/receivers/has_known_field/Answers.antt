use Rattle.std.proofs.Common.{ap, ◌∙◌}
use Rattle.type_constraints.specs.Uses as us
use Rattle.type_constraints.proofs.receivers.has_known_field.Goals as goal

pub returns : goal.returns
returns c =
    λ f are ts ties.
    c.is_number.ensures ∙ ap (us.is_number c.args.field) (c.field_named.ensures f are ts ties ∙ ap (λ n. f.field n c.args.info.now.name) c.in_ok-new.ensures)
