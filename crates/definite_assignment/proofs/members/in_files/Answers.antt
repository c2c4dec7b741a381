use Rattle.std.proofs.Common.{map, ap, refl, ◌∙◌}
use Rattle.java_core.specs.declared.program.CoreFile.{CoreFile}
use Rattle.java_core.specs.View.{class_plain, file_plain}
use Rattle.definite_assignment.specs.Bodies as spec
use Rattle.definite_assignment.proofs.Steps.{step}
use Rattle.definite_assignment.proofs.members.in_files.Goals as goal

pub loop-file-preserved : goal.loop-file-preserved
loop-file-preserved c =
    step (λ xs. spec.in_files c.args.w.now (map file_plain xs)) (λ (x : CoreFile). spec.in_classes c.args.w.now (map class_plain x.classes)) (λ x xs s. refl) c.args.files.now c.loop-file.file-index c.file-item.result c.loop-file.first c.in_classes.new.first _
    c.loop-file-test.true c.file-item.is (c.in_ok-in_classes.ensures {u = tt} ∙ ap (λ xs. spec.in_classes c.args.w.now (map class_plain xs) c.loop-file.first) c.as_slice.ensures) c.loop-file.invariant
