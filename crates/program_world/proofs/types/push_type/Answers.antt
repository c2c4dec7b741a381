use Rattle.std.proofs.Common.{◌∙◌}
use Rattle.java_tree.specs.View.{unit_plain, decl_plain}
use Rattle.program_world.proofs.Adding.{type_added}
use Rattle.program_world.proofs.types.push_type.Goals as goal

pub returns : goal.returns
returns c = λ p at.
    type_added p (record { file = record { unit = unit_plain c.args.unit.now; user = c.args.user }; number = c.args.scope.now.file; decl = decl_plain c.args.class.now }) c.args.world.now
    c.in_ok-owner.owner c.in_ok-first_method.first_method c.in_ok-first_field.first_field c.in_ok-number.field-0 c.in_ok-number-2.field-0
    c.push.new.self c.push_methods.new.methods c.push_fields.new.fields c.in_ok-info.info c.in_ok-info-2.field-0 c.in_ok-info-3.field-0 c.in_ok-info-4.field-0
    (c.in_ok-owner.ensures ∙ c.len.ensures) (c.in_ok-first_method.ensures ∙ c.len-2.ensures) (c.in_ok-first_field.ensures ∙ c.len-3.ensures)
    (c.in_ok-push_methods.ensures p at) (c.in_ok-push_fields.ensures p at)
    c.in_ok-info.ensures (c.in_ok-info-2.ensures p at)
    (c.in_ok-number.ensures ∙ c.len-4.ensures) c.in_ok-info-3.ensures
    (c.in_ok-number-2.ensures ∙ c.len-5.ensures) c.in_ok-info-4.ensures
    c.in_ok-push.ensures.ok
