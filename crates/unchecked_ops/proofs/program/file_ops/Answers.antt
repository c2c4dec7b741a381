use Rattle.std.proofs.Common.{◌++◌, map, ap, sym, subst, ◌∙◌}
use Rattle.java_core.specs.View.{class_plain}
use Rattle.type_facts.specs.declared.questions.Questions.{Questions}
use Rattle.type_facts.specs.Facts.{AreFacts, IsReady}
use Rattle.unchecked_ops.specs.Casting.{AreCasts}
use Rattle.unchecked_ops.specs.Programs as spec
use Rattle.unchecked_ops.proofs.Arms.{whole}
use Rattle.unchecked_ops.proofs.program.file_ops.Goals as goal

pub classes_ops-requires : goal.classes_ops-requires
classes_ops-requires c = subst IsReady (sym c.in_file-here.ensures) (record { sound = c.requires.sound; members = c.requires.members })

pub returns : goal.returns
returns c =
    λ f d u m.
    let listed = c.in_ok-classes_ops.ensures {u = tt} f (subst (λ q. AreFacts q f) (sym c.in_file-here.ensures) d) u (subst (λ (q : Questions). AreCasts q.world.now u) (sym c.in_file-here.ensures) m) in
    let started = c.new-nodes.ensures in
    whole c.put_all.result c.args.out.now c.put_all.new.out _ _
    (ap (map (spec.operation c.args.number)) (c.as_slice-2.ensures ∙ listed ∙ ap (λ xs. xs ++ spec.classes_ops f u (map class_plain c.as_slice.result.now)) started ∙ ap (λ xs. spec.classes_ops f u (map class_plain xs)) c.as_slice.ensures))
    c.put_all.ensures
