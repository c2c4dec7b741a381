use Rattle.std.proofs.Common.{◌≡◌, Some, inl, inr, refl, sym, ap, subst, length}
use Rattle.std.specs.Prelude.{slice_get, slice_set}
use Rattle.std.proofs.lemmas.Option.{slice_get_read}
use Rattle.method_groups.proofs.Additions.{adds_new}
use Rattle.method_groups.proofs.Rows.{label_has, Labelled}
use Rattle.method_groups.proofs.labels.Labels.add_one.Goals as goal

pub returns-clause-has : goal.returns-clause-has
returns-clause-has c k y =
    let old = c.args.self.now in
    let labels = old.labels.items in
    let rest : slice_get labels c.args.m ≡ Some c.index-rest.result.now = slice_get_read labels (length labels) c.args.m c.index-rest.result.now refl c.requires.within c.index-rest.ensures in
    let made = c.in_ok-label.ensures in
    let has = label_has old.rows.items c.label_with.new.self.rows.items labels c.args.m c.index-rest.result.now c.in_ok-label.label c.args.x c.requires.fit.falls c.requires.fit.within made.kept rest made.row.0 made.row.1.0 made.row.1.1 made.row.1.2 made.row.1.3 k y in
    let same = ap (λ v. slice_set v.items c.args.m c.in_ok-label.label) made.labels in (
      λ h. has.0 (subst (λ ls. Labelled ls c.label_with.new.self.rows.items k y) same h),
      λ h. subst (λ ls. Labelled ls c.label_with.new.self.rows.items k y) (sym same) (has.1 h),
    )

pub returns-clause-only : goal.returns-clause-only
returns-clause-only c n row at =
    let old = c.args.self.now in
    let labels = old.labels.items in
    let rest : slice_get labels c.args.m ≡ Some c.index-rest.result.now = slice_get_read labels (length labels) c.args.m c.index-rest.result.now refl c.requires.within c.index-rest.ensures in
    elim (c.in_ok-label.ensures.only n row at) [
      | inl was ↦ inl was
      | inr new ↦ inr (adds_new old.rows.items labels c.args.m c.index-rest.result.now c.args.x c.args.fewer c.added_to-added.result row rest new c.added_to-added.ensures)
    ]
