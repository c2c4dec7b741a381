use Rattle.std.proofs.Common.{◌≡◌, ◌∙◌, Some, refl, sym, ap, length, arith}
use Rattle.std.specs.Prelude.{slice_get}
use Rattle.std.proofs.lemmas.Option.{slice_get_within, slice_get_read}
use Rattle.method_groups.proofs.Groups.{group_told}
use Rattle.method_groups.proofs.MethodGroups.get.Goals as goal
use Rattle.method_groups.proofs.MethodGroups.get.Goals.{After-get-in-Some}

place_at : (c : After-get-in-Some) → slice_get c.args.self.now.places.items c.args.m ≡ Some c.in-Some.place.now
place_at c =
    let xs = c.deref.result.now in
    let at = c.in-Some.ensures.lookup in
    ap (λ ys. slice_get ys c.args.m) (sym c.deref.ensures.value) ∙ slice_get_read xs (length xs) c.args.m c.in-Some.place.now refl at.3.0 at.1

pub returns-in-Some-get : goal.returns-in-Some-get
returns-in-Some-get c w h lt =
    let lists = c.deref-in-Some.result.now in
    let at = c.in-Some-get.ensures.lookup in
    let list : slice_get c.args.self.now.groups.items c.in-Some.place.now ≡ Some c.in-Some-get.list.now =
    ap (λ ys. slice_get ys c.in-Some.place.now) (sym c.deref-in-Some.ensures.value) ∙ slice_get_read lists (length lists) c.in-Some.place.now c.in-Some-get.list.now refl at.3.0 at.1 in
    group_told w c.args.self.now c.args.m c.in-Some.place.now c.in-Some-get.list.now c.as_slice.result.now h lt (place_at ((goal.at.returns-in-Some-get c).After-get-in-Some)) list c.as_slice.ensures

pub returns-in-None-get : goal.returns-in-None-get
returns-in-None-get c w h lt =
    let its = h.each c.args.m lt in
    let places : Some its.0 ≡ Some c.in-Some.place.now = sym its.1 ∙ place_at ((goal.at.returns-in-None-get c).After-get-in-Some) in
    let place : its.0 ≡ c.in-Some.place.now = cc places in
    let within = slice_get_within c.args.self.now.groups.items its.0 its.2.list its.2.at in
    let past = c.in-None-get.ensures.lookup.3 in
    absurd (let same = ap length c.deref-in-Some.ensures.value in omega (arith, within, past, same, place))

pub returns-in-None : goal.returns-in-None
returns-in-None c w h lt =
    let its = h.each c.args.m lt in
    let within = slice_get_within c.args.self.now.places.items c.args.m its.0 its.1 in
    let past = c.in-None.ensures.lookup.3 in
    absurd (let same = ap length c.deref.ensures.value in omega (arith, within, past, same))
