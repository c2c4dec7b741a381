use Rattle.std.proofs.Common.{ap, sym, ◌∙◌}
use Rattle.class_world.specs.declared.world.World.{World}
use Rattle.type_facts.specs.Members.{seen_by}
use Rattle.type_kinds.specs.Members.{is_static_field}
use Rattle.unchecked_ops.proofs.Oks.{ok_as}
use Rattle.unchecked_ops.proofs.raw.seen_field.Goals as goal

pub returns : goal.returns
returns c =
    λ f d. ok_as c.seen_by.result _ _
    (ap (seen_by f c.args.t.now c.args.field.now.owner)
    (c.is_static_field-is_static.ensures ∙ ap (λ (w : World). is_static_field w c.args.field.now) (sym d.world)))
    (c.seen_by.ensures f d)
