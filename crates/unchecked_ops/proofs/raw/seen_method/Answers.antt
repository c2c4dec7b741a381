use Rattle.std.proofs.Common.{ap, ◌∙◌}
use Rattle.java_tree.specs.declared.tree.Mod.TheVariants as mods
use Rattle.type_kinds.specs.Kinds.{has}
use Rattle.type_facts.specs.Members.{seen_by}
use Rattle.unchecked_ops.proofs.Oks.{ok_as}
use Rattle.unchecked_ops.proofs.raw.seen_method.Goals as goal

pub returns : goal.returns
returns c =
    λ f d. ok_as c.seen_by.result _ _
    (ap (seen_by f c.args.t.now c.args.method.now.owner) (c.has-is_static.ensures ∙ ap (has mods.Static) c.as_slice.ensures))
    (c.seen_by.ensures f d)
