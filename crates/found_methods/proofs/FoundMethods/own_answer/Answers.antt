use Rattle.std.proofs.Common.{◌≡◌, Some, refl, sym, ap, ◌∙◌, subst, length, get_or, arith}
use Rattle.std.specs.Prelude.{slice_get}
use Rattle.std.proofs.lemmas.Option.{slice_get_read, slice_get-get_or}
use Rattle.std.proofs.lemmas.Bool.{true≢false}
use Rattle.method_ties.proofs.Firsts.{none_next}
use Rattle.found_methods.specs.Own.{LowestIs, IsGroup}
use Rattle.found_methods.specs.Found.{IsInPlaceOf}
use Rattle.found_methods.proofs.Owns.{own_within}
use Rattle.found_methods.proofs.Ups.{answer_own, first_here, none_here}
use Rattle.found_methods.proofs.FoundMethods.own_answer.Goals as goal

pub returns-in_err-lowest : goal.returns-in_err-lowest
returns-in_err-lowest c w l d h o lists at lowest =
    let t = c.args.self.now in
    let none = subst (LowestIs w t.labels.items l d) c.in_err-lowest.was lowest in
    rw c.from_residual.ensures (λ k is. none k (answer_own w t.labels.items h.labels c.args.method l at c.args.object d k is))

pub returns-in_err-group : goal.returns-in_err-group
returns-in_err-group c w l d h o lists at lowest =
    let t = c.args.self.now in
    let some = subst (LowestIs w t.labels.items l d) c.in_ok-lowest.was lowest in
    let within = own_within w t.labels.items some.0 in
    let past = c.in_err-group.ensures.lookup.3 in
    let same = ap length c.deref.ensures.value in
    absurd (omega (arith, within, past, same, h.groups.size))

pub returns-then-is_in_place_of : goal.returns-then-is_in_place_of
returns-then-is_in_place_of c w l d h o lists at lowest =
    let t = c.args.self.now in
    let xs = c.deref.result.now in
    let k = c.in_ok-lowest.field-0 in
    let list = c.in_ok-group.group.now in
    let some = subst (LowestIs w t.labels.items l d) c.in_ok-lowest.was lowest in
    let read = c.in_ok-group.ensures.lookup in
    let there : slice_get t.groups.items k ≡ Some list = ap (λ ys. slice_get ys k) (sym c.deref.ensures.value) ∙ slice_get_read xs (length xs) k list refl read.3.0 read.1 in
    let group = subst (IsGroup w t.labels.items (length w.methods) l d) (sym c.as_slice-k-items.ensures) (h.groups.each l d k list some there) in
    first_here w t.labels.items h.labels c.args.object c.args.method l d at c.as_slice-k-items.result.now group c.loop-k.k-index c.loop-k-test.true ((c.is_in_place_of.ensures w h o lists).0 c.if-is_in_place_of.true) (c.loop-k.invariant w h o lists)

pub loop-k-preserved : goal.loop-k-preserved
loop-k-preserved c w h o lists =
    let items = c.as_slice-k-items.result.now in
    let i = c.loop-k.k-index in
    none_next (λ j. IsInPlaceOf w c.args.object j c.args.method) items i (get_or items i 0) (c.loop-k.invariant w h o lists) (slice_get-get_or items i 0 c.loop-k-test.true)
    (λ is. true≢false (sym ((c.is_in_place_of.ensures w h o lists).1 is) ∙ c.if-is_in_place_of.false))

pub returns : goal.returns
returns c w l d h o lists at lowest =
    let t = c.args.self.now in
    let xs = c.deref.result.now in
    let k = c.in_ok-lowest.field-0 in
    let list = c.in_ok-group.group.now in
    let some = subst (LowestIs w t.labels.items l d) c.in_ok-lowest.was lowest in
    let read = c.in_ok-group.ensures.lookup in
    let there : slice_get t.groups.items k ≡ Some list = ap (λ ys. slice_get ys k) (sym c.deref.ensures.value) ∙ slice_get_read xs (length xs) k list refl read.3.0 read.1 in
    let group = subst (IsGroup w t.labels.items (length w.methods) l d) (sym c.as_slice-k-items.ensures) (h.groups.each l d k list some there) in
    none_here w t.labels.items h.labels c.args.object c.args.method l d at c.as_slice-k-items.result.now group c.loop-k.k-index c.loop-k-test.false (c.loop-k.invariant w h o lists)
