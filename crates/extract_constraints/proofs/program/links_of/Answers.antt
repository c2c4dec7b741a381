use Rattle.std.specs.Prelude.{take}
use Rattle.std.proofs.Common.{◌≡◌, None, ap, map, sym, ◌∙◌}
use Rattle.std.proofs.lemmas.List.{take-map}
use Rattle.java_core.specs.View.{file_plain}
use Rattle.marked_types.specs.Table.{marks_of}
use Rattle.marked_types.specs.declared.marks.Marks.{Marks}
use Rattle.type_constraints.proofs.Steps.{three}
use Rattle.extract_constraints.specs.Told.{Where}
use Rattle.extract_constraints.specs.Links as li
use Rattle.marked_types.proofs.Forms.{ok_as}
use Rattle.extract_constraints.proofs.program.links_of.Goals as goal

pub returns : goal.returns
returns c =
    λ k told.
    let q = c.args.q.now in
    let w = q.world.now in
    let n = c.args.users in
    let files = c.args.core.now.files in
    let first = map file_plain c.first_files-files.result.now in
    let same : first ≡ take n (map file_plain files) = ap (map file_plain) (c.first_files-files.ensures ∙ ap (take n) c.as_slice.ensures) ∙ sym (take-map file_plain n files) in
    let place : Marks → Where = λ m. record { reading = record { world = w; class = c.args.class; marks = m }; methods = c.args.methods.now; owner = 0; method = None } in
    ok_as c.in_files.result _ _
    (three (λ m xs ls. li.in_files k (place m) xs ls) _ _ _ _ _ _ (c.in_ok-marks.ensures ∙ ap (marks_of c.args.class w) same) same c.new.ensures)
    (c.in_files.ensures k told)
