use Rattle.std.proofs.Common.{◌≡◌, Some, refl, sym, ap, ◌∙◌, length, arith}
use Rattle.std.specs.Prelude.{slice_get}
use Rattle.std.proofs.lemmas.Option.{slice_get_read}
use Rattle.method_groups.specs.Labels.{last}
use Rattle.method_groups.proofs.labels.Labels.last.Goals as goal

pub returns : goal.returns
returns c =
    let t = c.args.self.now in
    let labels = c.deref.result.now in
    let rows = c.deref-2.result.now in
    let n = c.in_ok-label.field-0.now in
    let row = c.in_ok-row.field-0.now in
    let in_labels = c.in_ok-label.ensures.lookup in
    let in_rows = c.in_ok-row.ensures.lookup in
    let label : slice_get t.labels.items c.args.m ≡ Some n = ap (λ ys. slice_get ys c.args.m) (sym c.deref.ensures.value) ∙ slice_get_read labels (length labels) c.args.m n refl in_labels.3.0 in_labels.1 in
    let at : slice_get t.rows.items n ≡ Some row = ap (λ ys. slice_get ys n) (sym c.deref-2.ensures.value) ∙ slice_get_read rows (length rows) n row refl in_rows.3.0 in_rows.1 in
    (n, label, last (omega (arith, c.if-label-eq0.false)) at refl)
