use Rattle.std.proofs.lemmas.List.{length-map}
use Rattle.std.proofs.Common.{◌≡◌, map, Some, Ok, Err, slice_get, arith, subst, sym, ap, ◌∙◌}
use Rattle.std.specs.String.{string_bytes}
use Rattle.source_files.specs.Answers.{HasRead}
use Rattle.source_files.specs.Steps.{HasReadOne}
use Rattle.source_files.proofs.Reading.{item, passed_up, reading_more, reading_stops, reading_all}
use Rattle.source_files.proofs.read.read_files.Goals as goal

pub returns-in_err-text-clause-read : goal.returns-in_err-text-clause-read
returns-in_err-text-clause-read g c =
    let (r, kept, m, rf, w) = c.loop-number.invariant in
    let at : slice_get (map string_bytes c.args.names.now) c.loop-number.number ≡ Some c.deref.result.now =
    item string_bytes c.args.names.now c.loop-number.number c.index-names-number.result (omega arith) c.index-names-number.is ∙ ap Some (sym c.deref.ensures) in
    passed_up c.from_residual.result c.in_err-text.field-0.0 (HasRead (g.F.Files.holds c.args.files.now) (map string_bytes c.args.names.now)) c.from_residual.ensures.1
    (reading_stops _ _ _ _ _ r _ at c.in_err-text.field-0.0
    (subst (λ l. HasReadOne l c.loop-number.bytes c.deref.result.now c.loop-number.number (Err c.in_err-text.field-0.0)) kept c.in_err-text.ensures.read))

pub loop-number-preserved : goal.loop-number-preserved
loop-number-preserved g c =
    let (r, kept, m, rf, w) = c.loop-number.invariant in
    let at : slice_get (map string_bytes c.args.names.now) c.loop-number.number ≡ Some c.deref.result.now =
    item string_bytes c.args.names.now c.loop-number.number c.index-names-number.result (omega arith) c.index-names-number.is ∙ ap Some (sym c.deref.ensures) in
    let one = subst (λ l. HasReadOne l c.loop-number.bytes c.deref.result.now c.loop-number.number (Ok c.in_ok-text.text)) kept c.in_ok-text.ensures.read in
    let step = c.in_ok-text.ensures in
    (rw (c.in_ok-push.ensures.ok, c.len-bytes.ensures) (reading_more _ _ _ _ _ r _ at c.in_ok-text.text one), step.kept ∙ kept, omega (arith, m, step.misses_grow), omega (arith, rf, step.reads_grow), omega (arith, w, step.writes_grow))

pub returns-clause-read : goal.returns-clause-read
returns-clause-read g c = reading_all _ _ c.loop-number.number _ _ c.loop-number.invariant.0 (omega (arith, length-map c.args.names.now string_bytes))
