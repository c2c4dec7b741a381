use Rattle.std.proofs.Common.{◌≡◌, ℕ, Some, None, refl, sym, ap, ◌∙◌, subst, length, get_or, arith}
use Rattle.std.specs.Prelude.{slice_get}
use Rattle.std.specs.List.{Contains}
use Rattle.std.proofs.lemmas.List.Elements.{Contains-get_or}
use Rattle.std.proofs.lemmas.Option.{slice_get_read, slice_get-get_or}
use Rattle.class_world.specs.Overriding.{IsAnswer}
use Rattle.method_ties.proofs.Firsts.{none_next, among_all}
use Rattle.overrides.proofs.Places.{none_there, some_there}
use Rattle.found_methods.specs.Own.{LowestIs}
use Rattle.found_methods.specs.Found.{OwnAnswerIs, AnswerIs}
use Rattle.found_methods.proofs.Ups.{meets_lowest, own_returned, above_returned, none_above, step_up, superclass_known}
use Rattle.found_methods.proofs.FoundMethods.+answer.Goals as goal
use Rattle.found_methods.proofs.FoundMethods.+answer.Goals.{then-is_some-via-then-is_some, then-is_some-via-else-is_some+then-steps-eq0}

pub returns-in_err-label : goal.returns-in_err-label
returns-in_err-label t c w h o lists lt known steps =
    let past = c.in_err-label.ensures.lookup.3 in
    let same = ap length c.deref.ensures.value in
    absurd (omega (arith, lt, past, same, h.labels.size))

pub returns-then-is_some : goal.returns-then-is_some
returns-then-is_some t c w h o lists lt known steps =
    let x = c.args.self.now in
    let labels = x.labels.items in
    let l = c.in_ok-label.field-0.now in
    let xs = c.deref.result.now in
    let read = c.in_ok-label.ensures.lookup in
    let at : slice_get labels c.args.method ≡ Some l = ap (λ ys. slice_get ys c.args.method) (sym c.deref.ensures.value) ∙ slice_get_read xs (length xs) c.args.method l refl read.3.0 read.1 in
    let firsts = h.firsts c.args.class known in
    let met = meets_lowest w labels h.labels c.args.method l at c.args.class firsts.0 _ (firsts.2 l) in
    let own = c.own_answer-own.ensures w l met.0 h o lists at (subst (LowestIs w labels l met.0) (sym c.get-lowest.ensures) met.2) in
    own_returned w labels h.labels c.args.method l at c.args.object c.args.class met.0 c.own_answer-own.result met.1 own
    (λ none s is k further. elim c.then-is_some.branch [
      | then-is_some-via-then-is_some v ↦
          let some = some_there c.own_answer-own.result None c.is_some.result none c.is_some.ensures v.if-is_some.true in
          let e : None ≡ Some some.0 = some.1 in
          absurd (cc e)
      | then-is_some-via-else-is_some+then-steps-eq0 v ↦
          let low = step_up w labels x.most l c.args.steps h.ranked c.args.class met.0 s met.1 is steps in
          absurd (let zero = v.if-steps-eq0.true in omega (arith, low, zero))
    ])

pub returns-in_err-last : goal.returns-in_err-last
returns-in_err-last t c w h o lists lt known steps = absurd (c.in_err-last.ensures w c.in_ok-label.field-0.now h known c.get-lowest.ensures)

pub returns-in_err-above : goal.returns-in_err-above
returns-in_err-above t c w h o lists lt known steps =
    let x = c.args.self.now in
    let labels = x.labels.items in
    let l = c.in_ok-label.field-0.now in
    let xs = c.deref.result.now in
    let read = c.in_ok-label.ensures.lookup in
    let at : slice_get labels c.args.method ≡ Some l = ap (λ ys. slice_get ys c.args.method) (sym c.deref.ensures.value) ∙ slice_get_read xs (length xs) c.args.method l refl read.3.0 read.1 in
    let last = c.in_ok-last.last in
    let stops = c.in_ok-last.ensures w l h known c.get-lowest.ensures in
    let own = c.own_answer-own.ensures w l last h o lists at stops.1 in
    let none = none_there c.own_answer-own.result c.own_answer-own.result c.is_some.result refl c.is_some.ensures c.if-is_some.false in
    let past = c.in_err-above.ensures.lookup.3 in
    let same = ap length c.deref-2.ensures.value in
    rw c.from_residual-in_err-above.ensures
    (none_above w labels h.labels c.args.method l at c.args.object c.args.class last stops.0 (subst (OwnAnswerIs w c.args.object c.args.method last) none own)
    (λ s is k further. let within = (superclass_known w last s is).0 in absurd (omega (arith, within, past, same, h.supers.size))))

pub returns-then-is_some-2 : goal.returns-then-is_some-2
returns-then-is_some-2 t c w h o lists lt known steps =
    let x = c.args.self.now in
    let labels = x.labels.items in
    let l = c.in_ok-label.field-0.now in
    let xs = c.deref.result.now in
    let read = c.in_ok-label.ensures.lookup in
    let at : slice_get labels c.args.method ≡ Some l = ap (λ ys. slice_get ys c.args.method) (sym c.deref.ensures.value) ∙ slice_get_read xs (length xs) c.args.method l refl read.3.0 read.1 in
    let last = c.in_ok-last.last in
    let stops = c.in_ok-last.ensures w l h known c.get-lowest.ensures in
    let own = c.own_answer-own.ensures w l last h o lists at stops.1 in
    let none = none_there c.own_answer-own.result c.own_answer-own.result c.is_some.result refl c.is_some.ensures c.if-is_some.false in
    let items = c.as_slice-s-items.result.now in
    let i = c.loop-s.s-index in
    let s = get_or items i 0 in
    let list = c.in_ok-above.above.now in
    let ys = c.deref-2.result.now in
    let row = c.in_ok-above.ensures.lookup in
    let there : slice_get x.supers.items last ≡ Some list = ap (λ zs. slice_get zs last) (sym c.deref-2.ensures.value) ∙ slice_get_read ys (length ys) last list refl row.3.0 row.1 in
    let is = (h.supers.each last list there s).0 (subst (λ zs. Contains zs s) c.as_slice-s-items.ensures (Contains-get_or items i 0 c.loop-s-test.true)) in
    let low = step_up w labels x.most l c.args.steps h.ranked c.args.class last s stops.0 is steps in
    let above = c.answer-found.ensures w h o lists lt ((superclass_known w last s is).1) (omega (arith, low)) in
    above_returned w labels h.labels c.args.method l at c.args.object c.args.class last s c.answer-found.result stops.0 (subst (OwnAnswerIs w c.args.object c.args.method last) none own) is above
    (λ nothing.
    let some = some_there c.answer-found.result None c.is_some-in-loop-s.result nothing c.is_some-in-loop-s.ensures c.if-is_some-2.true in
    let e : None ≡ Some some.0 = some.1 in
    absurd (cc e))

pub loop-s-preserved : goal.loop-s-preserved
loop-s-preserved t c w h o lists lt known steps =
    let x = c.args.self.now in
    let labels = x.labels.items in
    let l = c.in_ok-label.field-0.now in
    let last = c.in_ok-last.last in
    let stops = c.in_ok-last.ensures w l h known c.get-lowest.ensures in
    let items = c.as_slice-s-items.result.now in
    let i = c.loop-s.s-index in
    let s = get_or items i 0 in
    let list = c.in_ok-above.above.now in
    let ys = c.deref-2.result.now in
    let row = c.in_ok-above.ensures.lookup in
    let there : slice_get x.supers.items last ≡ Some list = ap (λ zs. slice_get zs last) (sym c.deref-2.ensures.value) ∙ slice_get_read ys (length ys) last list refl row.3.0 row.1 in
    let is = (h.supers.each last list there s).0 (subst (λ zs. Contains zs s) c.as_slice-s-items.ensures (Contains-get_or items i 0 c.loop-s-test.true)) in
    let low = step_up w labels x.most l c.args.steps h.ranked c.args.class last s stops.0 is steps in
    let above = c.answer-found.ensures w h o lists lt ((superclass_known w last s is).1) (omega (arith, low)) in
    let nothing = none_there c.answer-found.result c.answer-found.result c.is_some-in-loop-s.result refl c.is_some-in-loop-s.ensures c.if-is_some-2.false in
    let none = subst (AnswerIs w c.args.object c.args.method s) nothing above in
    λ y among k answer.
    none_next (λ z. (k : ℕ) × IsAnswer w c.args.object c.args.method z k) items i s (λ z am a. c.loop-s.invariant w h o lists lt known steps z am a.0 a.1) (slice_get-get_or items i 0 c.loop-s-test.true)
    (λ a. none a.0 a.1) y among (k, answer)

pub returns : goal.returns
returns t c w h o lists lt known steps =
    let x = c.args.self.now in
    let labels = x.labels.items in
    let l = c.in_ok-label.field-0.now in
    let xs = c.deref.result.now in
    let read = c.in_ok-label.ensures.lookup in
    let at : slice_get labels c.args.method ≡ Some l = ap (λ ys. slice_get ys c.args.method) (sym c.deref.ensures.value) ∙ slice_get_read xs (length xs) c.args.method l refl read.3.0 read.1 in
    let last = c.in_ok-last.last in
    let stops = c.in_ok-last.ensures w l h known c.get-lowest.ensures in
    let own = c.own_answer-own.ensures w l last h o lists at stops.1 in
    let none = none_there c.own_answer-own.result c.own_answer-own.result c.is_some.result refl c.is_some.ensures c.if-is_some.false in
    let items = c.as_slice-s-items.result.now in
    let list = c.in_ok-above.above.now in
    let ys = c.deref-2.result.now in
    let row = c.in_ok-above.ensures.lookup in
    let there : slice_get x.supers.items last ≡ Some list = ap (λ zs. slice_get zs last) (sym c.deref-2.ensures.value) ∙ slice_get_read ys (length ys) last list refl row.3.0 row.1 in
    none_above w labels h.labels c.args.method l at c.args.object c.args.class last stops.0 (subst (OwnAnswerIs w c.args.object c.args.method last) none own)
    (λ s is k further.
    let has = subst (λ zs. Contains zs s) (sym c.as_slice-s-items.ensures) ((h.supers.each last list there s).1 is) in
    c.loop-s.invariant w h o lists lt known steps s (among_all items c.loop-s.s-index s c.loop-s-test.false has) k further)
