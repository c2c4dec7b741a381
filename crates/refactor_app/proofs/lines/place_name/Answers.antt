use Rattle.std.proofs.Common.{◌≡◌, ◌∙◌, ℕ, IfOk, List, Some, length, refl, sym, ap, subst, arith}
use Rattle.std.specs.String.{string_bytes}
use Rattle.std.proofs.lemmas.Option.{slice_get_read}
use Rattle.edit_writer.specs.declared.places.Place.{Place}
use Rattle.edit_writer.specs.Places.{place_at}
use Rattle.line_tables.specs.Marks.{AreMarks}
use Rattle.report_text.specs.Report.{place_text}
use Rattle.refactor_app.specs.Declarations.{place_name}
use Rattle.refactor_app.proofs.Faults.{small_at}
use Rattle.refactor_app.proofs.Places.{place_min, there}
use Rattle.refactor_app.proofs.lines.place_name.Goals as goal

pub place_by-at-requires-clause-size : goal.place_by-at-requires-clause-size
place_by-at-requires-clause-size c =
    let at = c.in-Some-get.ensures.lookup in
    let text_at = slice_get_read c.args.texts.now _ c.args.place.file c.in-Some-get.text.now refl at.3.0 at.1 in
    let small = small_at c.args.texts.now c.args.place.file c.in-Some-get.text.now c.requires.small text_at in
    let same = ap length c.as_slice-text.ensures in
    omega (arith, small, same)

pub place_by-at-requires-clause-marks : goal.place_by-at-requires-clause-marks
place_by-at-requires-clause-marks c =
    let at = c.in-Some-get.ensures.lookup in
    let text_at = slice_get_read c.args.texts.now _ c.args.place.file c.in-Some-get.text.now refl at.3.0 at.1 in
    subst (λ (x : List ℕ). AreMarks x c.args.marks.now) (sym c.as_slice-text.ensures) (c.requires.marks c.in-Some-get.text.now text_at)

pub returns : goal.returns
returns c fs are =
    let name = c.in-Some.ensures.lookup in
    let name_at = slice_get_read c.args.names.now _ c.args.place.file c.in-Some.name.now refl name.3.0 name.1 in
    let at = c.in-Some-get.ensures.lookup in
    let text_at = slice_get_read c.args.texts.now _ c.args.place.file c.in-Some-get.text.now refl at.3.0 at.1 in
    let bytes = c.as_slice-text.result.now in
    let place : c.place_by-at.result ≡ place_at c.in-Some-get.text.now c.args.place.at =
    c.place_by-at.ensures ∙ ap (λ (k : ℕ). place_at bytes k) c.min.ensures ∙ place_min bytes c.args.place.at ∙ ap (λ (x : List ℕ). place_at x c.args.place.at) c.as_slice-text.ensures in
    let line : place_text c.as_str.result.now c.place_by-at.result ≡ place_name fs c.args.texts.now (Some c.args.place) =
    ap (λ (n : List ℕ). place_text n c.place_by-at.result) c.as_str.ensures.value
    ∙ ap (λ (p : Place). place_text (string_bytes c.in-Some.name.now) p) place
    ∙ there fs c.args.texts.now c.args.names.now are c.args.place c.in-Some.name.now c.in-Some-get.text.now (sym name_at) (sym text_at) in
    subst (λ (l : List ℕ). IfOk c.place_text.result (λ r. string_bytes r ≡ l)) line c.place_text.ensures
