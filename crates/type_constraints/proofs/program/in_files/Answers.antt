use Rattle.std.proofs.Common.{map, refl, ap, ◌∙◌}
use Rattle.java_core.specs.View.{class_plain, file_plain}
use Rattle.thrown_exceptions.proofs.Steps.{step}
use Rattle.type_constraints.specs.Asked.{asked}
use Rattle.type_constraints.specs.Constraints as co
use Rattle.type_constraints.proofs.Steps.{ended}
use Rattle.type_constraints.proofs.program.in_files.Goals as goal

pub loop-file-preserved : goal.loop-file-preserved
loop-file-preserved c =
    λ f are ts ties.
    let a = asked c.args.at.now f ts in
    step (λ xs s. co.in_files a (map file_plain xs) s) (λ x s. co.in_classes a (map class_plain x.classes) s) (λ x xs s. refl)
    c.args.files.now c.loop-file.file-index c.file-item.result c.loop-file.first c.in_ok-first.first _ c.loop-file-test.true c.file-item.is
    (c.in_ok-first.ensures f are ts ties ∙ ap (λ xs. co.in_classes a (map class_plain xs) c.loop-file.first) c.as_slice.ensures) (c.loop-file.invariant f are ts ties)

pub returns : goal.returns
returns c =
    λ f are ts ties.
    let a = asked c.args.at.now f ts in
    ended (λ xs s. co.in_files a (map file_plain xs) s) (λ s. refl) c.args.files.now c.loop-file.file-index c.loop-file.first _ c.loop-file-test.false (c.loop-file.invariant f are ts ties)
