use Rattle.std.proofs.Common.{List, ℕ, ap, length, length-append, refl, subst, sym, arith}
use Rattle.std.proofs.lemmas.Option.{slice_get_read}
use Rattle.line_tables.specs.Marks.{AreMarks}
use Rattle.refactor_app.specs.Marked.{AreTables}
use Rattle.refactor_app.proofs.Faults.{small_at}
use Rattle.refactor_app.proofs.Marks.{one_more}
use Rattle.refactor_app.proofs.lines.marks_of.Goals as goal

pub line_table-requires : goal.line_table-requires
line_table-requires c =
    let at = slice_get_read c.args.texts.now _ c.loop-text.text-index c.text-item.result refl c.loop-text-test.true c.text-item.is in
    let small = small_at c.args.texts.now c.loop-text.text-index c.text-item.result c.requires at in
    let same = ap length c.as_slice.ensures in
    record { size = omega (arith, small, same) }

pub loop-text-preserved : goal.loop-text-preserved
loop-text-preserved c =
    let at = slice_get_read c.args.texts.now _ c.loop-text.text-index c.text-item.result refl c.loop-text-test.true c.text-item.is in
    let marks = subst (λ (x : List ℕ). AreMarks x c.in_ok-marks.marks) c.as_slice.ensures c.in_ok-marks.ensures.marks in
    let more = one_more c.args.texts.now c.loop-text.tables c.loop-text.text-index c.text-item.result c.in_ok-marks.marks c.loop-text.invariant.count at marks c.loop-text.invariant.tables in
    record {
      tables = subst (AreTables c.args.texts.now) (sym c.in_ok-push.ensures.ok) more;
      count = omega (arith, simp length-append at (ap length c.in_ok-push.ensures.ok));
    }
