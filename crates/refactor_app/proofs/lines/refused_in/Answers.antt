use Rattle.std.proofs.Common.{refl, ap, ◌∙◌}
use Rattle.std.specs.Prelude.{slice_get}
use Rattle.std.specs.String.{string_bytes}
use Rattle.std.proofs.lemmas.Option.{slice_get_read}
use Rattle.edit_writer.specs.Places.{place_at}
use Rattle.report_text.specs.Report.{refused_at}
use Rattle.refactor_app.proofs.Courses.{named_at}
use Rattle.refactor_app.proofs.Faults.{refused_there}
use Rattle.refactor_app.proofs.lines.refused_in.Goals as goal

pub returns : goal.returns
returns c =
    λ fs named.
    let rule = c.args.rule.now in
    let file = c.args.file in
    let name = string_bytes c.index-names-file.result in
    let text = c.index-texts-file.result in
    refused_there string_bytes c.refused_at.result rule name text _ fs c.args.texts.now file c.args.at
    (ap (λ ns. slice_get ns file) named ∙ named_at string_bytes c.args.names.now file c.index-names-file.result c.requires.name c.index-names-file.is)
    (slice_get_read c.args.texts.now _ file text refl c.requires.text c.index-texts-file.is)
    (ap (λ f. refused_at rule f c.place_at-place.result) c.as_str.ensures.value ∙ ap (refused_at rule name) (c.place_at-place.ensures ∙ ap (λ t. place_at t c.args.at) c.as_slice.ensures))
    c.refused_at.ensures
