use Rattle.std.proofs.Common.{◌≡◌, ◌∙◌, Some, refl, sym, ap, length, arith}
use Rattle.std.specs.Prelude.{slice_get}
use Rattle.std.proofs.lemmas.Option.{slice_get_within, slice_get_read}
use Rattle.overrides.proofs.Marks.{family_told}
use Rattle.overrides.proofs.Overrides.family.Goals as goal
use Rattle.overrides.proofs.Overrides.family.Goals.{After-get-in-Some}

label_at : (c : After-get-in-Some) → slice_get c.args.self.now.labels.items c.args.m ≡ Some c.in-Some.label.now
label_at c =
    let xs = c.deref.result.now in
    let at = c.in-Some.ensures.lookup in
    ap (λ ys. slice_get ys c.args.m) (sym c.deref.ensures.value) ∙ slice_get_read xs (length xs) c.args.m c.in-Some.label.now refl at.3.0 at.1

pub returns-in-Some-get : goal.returns-in-Some-get
returns-in-Some-get c w h lt =
    let lists = c.deref-in-Some.result.now in
    let at = c.in-Some-get.ensures.lookup in
    let list : slice_get c.args.self.now.families.items c.in-Some.label.now ≡ Some c.in-Some-get.list.now =
    ap (λ ys. slice_get ys c.in-Some.label.now) (sym c.deref-in-Some.ensures.value) ∙ slice_get_read lists (length lists) c.in-Some.label.now c.in-Some-get.list.now refl at.3.0 at.1 in
    family_told w c.args.self.now h c.args.m c.in-Some.label.now c.in-Some-get.list.now c.as_slice.result.now lt (label_at ((goal.at.returns-in-Some-get c).After-get-in-Some)) list c.as_slice.ensures

pub returns-in-None-get : goal.returns-in-None-get
returns-in-None-get c w h lt =
    let label = h.labels.within c.args.m c.in-Some.label.now (label_at ((goal.at.returns-in-None-get c).After-get-in-Some)) in
    let list = h.families c.in-Some.label.now label in
    let within = slice_get_within c.args.self.now.families.items c.in-Some.label.now list.0 list.1 in
    let past = c.in-None-get.ensures.lookup.3 in
    absurd (let same = ap length c.deref-in-Some.ensures.value in omega (arith, within, past, same))
