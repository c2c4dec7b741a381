use Rattle.std.proofs.Common.{ap, map, refl, ◌∙◌}
use Rattle.java_core.specs.View.{class_plain, file_plain}
use Rattle.class_places.proofs.Steps.{step}
use Rattle.type_constraints.proofs.Steps.{ended}
use Rattle.extract_constraints.specs.Told.{where_of}
use Rattle.extract_constraints.specs.Links as li
use Rattle.extract_constraints.proofs.program.in_files.Goals as goal

pub loop-file-preserved : goal.loop-file-preserved
loop-file-preserved c =
    λ k told.
    let a = where_of c.args.at.now in
    step (λ xs s. li.in_files k a (map file_plain xs) s) (λ x s. li.in_classes k a (map class_plain x.classes) s) (λ x xs s. refl)
    c.args.files.now c.loop-file.file-index c.file-item.result c.loop-file.links c.in_ok-links.links _ c.loop-file-test.true c.file-item.is
    (c.in_ok-links.ensures k told ∙ ap (λ xs. li.in_classes k a (map class_plain xs) c.loop-file.links) c.as_slice.ensures) (c.loop-file.invariant k told)

pub returns : goal.returns
returns c =
    λ k told.
    let a = where_of c.args.at.now in
    ended (λ xs s. li.in_files k a (map file_plain xs) s) (λ s. refl) c.args.files.now c.loop-file.file-index c.loop-file.links _ c.loop-file-test.false (c.loop-file.invariant k told)
