use Rattle.std.proofs.Common.{◌≡◌, ◌∙◌, Some, refl, sym, ap, subst, length, arith}
use Rattle.std.specs.Prelude.{slice_get}
use Rattle.std.proofs.lemmas.Option.{slice_get_read, slice_get_within}
use Rattle.found_methods.specs.Own.{LowestIs}
use Rattle.found_methods.proofs.Ups.{stops_some, stops_none, met_within}
use Rattle.found_methods.proofs.FoundMethods.last.Goals as goal

pub returns-in_err-get-in-Some : goal.returns-in_err-get-in-Some
returns-in_err-get-in-Some c w l h lt is =
    let t = c.args.self.now in
    let lt = met_within w t.labels.items t.firsts l c.args.class c.in-Some.k (h.firsts c.args.class lt) (sym is ∙ c.in-Some.is) in
    let past = c.in_err-get-in-Some.ensures.lookup.3 in
    let same = ap length c.deref.ensures.value in
    absurd (omega (arith, lt, past, same, h.callees.size))

pub returns-in_err-get-in-None : goal.returns-in_err-get-in-None
returns-in_err-get-in-None c w l h lt is =
    let end = h.firsts c.args.class lt in
    let within = slice_get_within c.args.self.now.firsts.ends.items c.args.class end.0 end.1 in
    let past = c.in_err-get-in-None.ensures.lookup.3 in
    let same = ap length c.deref-in-None.ensures.value in
    absurd (omega (arith, within, past, same))

pub returns-in_ok-get-in-Some : goal.returns-in_ok-get-in-Some
returns-in_ok-get-in-Some c w l h lt is =
    let t = c.args.self.now in
    let xs = c.deref.result.now in
    let x = c.in_ok-get-in-Some.field-0.now in
    let read = c.in_ok-get-in-Some.ensures.lookup in
    let at : slice_get t.callees.items c.in-Some.k ≡ Some x = ap (λ ys. slice_get ys c.in-Some.k) (sym c.deref.ensures.value) ∙ slice_get_read xs (length xs) c.in-Some.k x refl read.3.0 read.1 in
    let stops = stops_some w t.labels.items t.callees.items t.firsts l c.args.class c.in-Some.k x h.callees (h.firsts c.args.class lt) (sym is ∙ c.in-Some.is) at in
    (stops.0, subst (LowestIs w t.labels.items l x.owner) (sym c.in-Some.is) stops.1)

pub returns-in_ok-get-in-None : goal.returns-in_ok-get-in-None
returns-in_ok-get-in-None c w l h lt is =
    let t = c.args.self.now in
    let xs = c.deref-in-None.result.now in
    let end = c.in_ok-get-in-None.field-0.now in
    let read = c.in_ok-get-in-None.ensures.lookup in
    let at : slice_get t.firsts.ends.items c.args.class ≡ Some end = ap (λ ys. slice_get ys c.args.class) (sym c.deref-in-None.ensures.value) ∙ slice_get_read xs (length xs) c.args.class end refl read.3.0 read.1 in
    let stops = stops_none w t.labels.items t.firsts l c.args.class end (h.firsts c.args.class lt) (sym is ∙ c.in-None.is) at in
    (stops.0, subst (LowestIs w t.labels.items l end) (sym c.in-None.is) stops.1)
