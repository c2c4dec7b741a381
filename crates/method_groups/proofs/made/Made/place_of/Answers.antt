use Rattle.std.proofs.Common.{◌≡◌, ℕ, Some, None, true, false, refl, sym, ap, ◌∙◌, subst, length, arith}
use Rattle.std.specs.Prelude.{slice_get}
use Rattle.std.specs.Option.{option_copied}
use Rattle.std.proofs.lemmas.Option.{slice_get_read}
use Rattle.class_world.specs.Inheritance.{IsGrouped}
use Rattle.class_world.proofs.Collected.{item_at}
use Rattle.method_groups.specs.Constructors.{found_in, shape_of, IsConstructor}
use Rattle.method_groups.specs.Labels.{IsOverload}
use Rattle.method_groups.specs.Groups.{HasList}
use Rattle.method_groups.proofs.Firsts.{if_ok}
use Rattle.method_groups.proofs.Groups.{list_says, label_members, label_group, constructor_list}
use Rattle.method_groups.proofs.made.Made.place_of.Goals as goal
use Rattle.method_groups.proofs.made.Made.place_of.Goals.{then-info+in_default, else-info, After-index-as_slice-m, After-index}

info_at : (c : After-index-as_slice-m) → slice_get c.args.w.now.methods c.args.m ≡ Some c.index-as_slice-m.result
info_at c = let all = ap length c.as_slice.ensures in item_at _ _ _ _ c.as_slice.ensures (omega (arith, c.requires.within, all)) c.index-as_slice-m.is

-- a constructor's place
its_place : (c : After-index-as_slice-m) → c.index-as_slice-m.result.constructor ≡ true
    → (p : ℕ) × (found_in c.args.shapes.now (shape_of c.index-as_slice-m.result) ≡ Some p) × HasList c.args.self.now.groups.items p (IsConstructor c.args.w.now (shape_of c.index-as_slice-m.result))
its_place c makes = let info = c.index-as_slice-m.result in c.requires.constructors (shape_of info) c.args.m (info, info_at c, makes, refl)

pub returns-in-Some-clause-has : goal.returns-in-Some-clause-has
returns-in-Some-clause-has c =
    let before = (goal.at.returns-in-Some-clause-has c).After-index-as_slice-m in
    let w = c.args.w.now in
    let groups = c.args.self.now.groups.items in
    let info = c.index-as_slice-m.result in
    let its = its_place before c.if-info.true in
    let found : found_in c.args.shapes.now (shape_of info) ≡ Some c.in-Some.place.now = ap (found_in c.args.shapes.now) (sym c.shape_of.ensures) ∙ sym c.get.ensures.value ∙ ap option_copied c.in-Some.is in
    let both : Some its.0 ≡ Some c.in-Some.place.now = sym its.1 ∙ found in
    let same : its.0 ≡ c.in-Some.place.now = cc both in
    constructor_list w groups c.in-Some.place.now c.args.m info (info_at before) c.if-info.true (subst (λ p. HasList groups p (IsConstructor w (shape_of info))) same its.2)

label_at : (c : After-index) → slice_get c.args.labels.now.labels.items c.args.m ≡ Some c.index.result.now
label_at c =
    let labels = c.args.labels.now.labels.items in
    let size = c.requires.labels.labels.size in
    slice_get_read labels (length labels) c.args.m c.index.result.now refl (omega (arith, c.requires.within, size)) c.index.ensures

pub place_of_label-requires-clause-within : goal.place_of_label-requires-clause-within
place_of_label-requires-clause-within c =
    c.requires.labels.labels.fit.within c.args.m c.index.result.now (label_at ((goal.at.place_of_label-requires-clause-within c).After-index))

pub place_of_label-requires-clause-members : goal.place_of_label-requires-clause-members
place_of_label-requires-clause-members c =
    label_members c.args.w.now c.args.labels.now c.requires.labels c.args.m c.index.result.now (label_at ((goal.at.place_of_label-requires-clause-members c).After-index))

pub returns-clause-has : goal.returns-clause-has
returns-clause-has c =
    let before = (goal.at.returns-clause-has c).After-index-as_slice-m in
    let w = c.args.w.now in
    let t = c.args.labels.now in
    let m = c.args.m in
    let n = c.index.result.now in
    let info = c.index-as_slice-m.result in
    let plain : info.constructor ≡ false =
    elim c.if-info.branch [
      | then-info+in_default v ↦
          let its = its_place before v.if-info.true in
          let never : Some its.0 ≡ None = sym its.1 ∙ ap (found_in c.args.shapes.now) (sym v.shape_of.ensures) ∙ sym v.get.ensures.value ∙ ap option_copied v.in_default.is in
          absurd (cc never)
      | else-info v ↦ v.if-info.false
    ] in
    let same = label_group w t c.requires.labels m n (label_at ((goal.at.returns-clause-has c).After-index)) info (info_at before) plain in
    if_ok c.place_of_label.result _ _ (λ p h. list_says c.place_of_label.new.self.groups.items p (IsOverload w t.rows.items n) (IsGrouped w m) same h) c.place_of_label.ensures.has
