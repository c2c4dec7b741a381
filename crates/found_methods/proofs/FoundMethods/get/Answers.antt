use Rattle.std.proofs.Common.{◌≡◌, ◌<◌, ◌≤◌, Some, None, refl, sym, ap, ◌∙◌, length, arith}
use Rattle.std.specs.Prelude.{slice_get}
use Rattle.std.proofs.lemmas.Option.{slice_get_read, slice_get_within}
use Rattle.std.proofs.lemmas.Bool.{true≢false}
use Rattle.found_methods.proofs.Ups.{nothing_found, fixed_found, answer_found, no_answer}
use Rattle.found_methods.proofs.FoundMethods.get.Goals as goal

pub returns-in_err-get : goal.returns-in_err-get
returns-in_err-get c w h o lists =
    let past = c.in_err-get.ensures.lookup.3 in
    let same = ap length c.deref.ensures.value in
    let outside : length w.methods ≤ c.args.method = omega (arith, past, same, h.callees.size) in
    rw c.from_residual.ensures (nothing_found w c.args.method c.args.class outside)

pub returns-then-branch : goal.returns-then-branch
returns-then-branch c w h o lists =
    let xs = c.deref.result.now in
    let x = c.in_ok-get.field-0.now in
    let read = c.in_ok-get.ensures.lookup in
    let at : slice_get c.args.self.now.callees.items c.args.method ≡ Some x = ap (λ ys. slice_get ys c.args.method) (sym c.deref.ensures.value) ∙ slice_get_read xs (length xs) c.args.method x refl read.3.0 read.1 in
    fixed_found w c.args.method c.args.class ((h.callees.fixed c.args.method x at).0 c.if-branch.true)

pub returns-then-class-len : goal.returns-then-class-len
returns-then-class-len c w h o lists =
    let xs = c.deref.result.now in
    let x = c.in_ok-get.field-0.now in
    let read = c.in_ok-get.ensures.lookup in
    let at : slice_get c.args.self.now.callees.items c.args.method ≡ Some x = ap (λ ys. slice_get ys c.args.method) (sym c.deref.ensures.value) ∙ slice_get_read xs (length xs) c.args.method x refl read.3.0 read.1 in
    let past : length w.types ≤ c.args.class = omega (arith, c.if-class-len.true, c.len.ensures, c.args.self.now.supers.ok.0, h.supers.size) in
    answer_found w c.args.method c.args.class None (λ is. true≢false (sym ((h.callees.fixed c.args.method x at).1 is) ∙ c.if-branch.false)) (λ k a. no_answer w c.args.class c.args.method c.args.class k past a)

pub returns : goal.returns
returns c w h o lists =
    let xs = c.deref.result.now in
    let x = c.in_ok-get.field-0.now in
    let read = c.in_ok-get.ensures.lookup in
    let at : slice_get c.args.self.now.callees.items c.args.method ≡ Some x = ap (λ ys. slice_get ys c.args.method) (sym c.deref.ensures.value) ∙ slice_get_read xs (length xs) c.args.method x refl read.3.0 read.1 in
    let lt = slice_get_within c.args.self.now.callees.items c.args.method x at in
    let within : c.args.method < length w.methods = omega (arith, lt, h.callees.size) in
    let known : c.args.class < length w.types = omega (arith, c.if-class-len.false, c.len.ensures, c.args.self.now.supers.ok.0, h.supers.size) in
    answer_found w c.args.method c.args.class c.answer.result (λ is. true≢false (sym ((h.callees.fixed c.args.method x at).1 is) ∙ c.if-branch.false)) (c.answer.ensures w h o lists within known (h.ranked.few c.args.class known))
