use Rattle.std.proofs.Common.{◌++◌, ◌+◌, None, map, drop, ap, ◌∙◌}
use Rattle.kept_places.specs.declared.links.Kind.TheVariants as kind
use Rattle.report_text.specs.Report.{kept_parts}
use Rattle.refactor_app.specs.Extractions.{kept_told}
use Rattle.refactor_app.proofs.Listing.{told_next}
use Rattle.refactor_app.proofs.extract.listed_lines.Goals as goal

pub loop-one-preserved : goal.loop-one-preserved
loop-one-preserved c =
    λ fs us names table.
    let says = kept_told fs c.args.texts.now us in
    ap (λ ls. map kept_parts ls ++ map says (drop (c.loop-one.one-index + 1) c.args.kept.now)) c.in_ok-push.ensures.ok
    ∙ told_next kept_parts says c.loop-one.lines c.in_ok-kept_line.field-0 c.args.kept.now c.loop-one.one-index (record { place = 0; node = 0; kind = kind.Assign; next = None }) _
    c.loop-one-test.true (c.in_ok-kept_line.ensures fs us names table) (c.loop-one.invariant fs us names table)
