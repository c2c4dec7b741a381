use Rattle.std.proofs.Common.{◌≡◌, get_or, length, subst, arith}
use Rattle.std.proofs.lemmas.Option.{slice_get-get_or}
use Rattle.counted_methods.proofs.Signing.{AreFirst, first_next, signs_told}
use Rattle.counted_methods.proofs.signs.signs.Goals as goal

pub loop-m-preserved : goal.loop-m-preserved
loop-m-preserved c =
    let ms = c.args.methods.now in
    let i = c.loop-m.m-index in
    let at = slice_get-get_or ms i 0 c.loop-m-test.true in
    first_next c.args.w.now c.args.c c.args.name c.loop-m.numbers c.sign.new.numbers ms c.loop-m.signs.items c.push.new.self.items i (get_or ms i 0) c.in_ok-sign.sign c.loop-m.invariant at c.in_ok-sign.ensures.kept
    c.in_ok-sign.ensures.apart c.in_ok-sign.ensures.sign c.in_ok-push.ensures.items

pub returns : goal.returns
returns c =
    let ms = c.args.methods.now in
    let all : c.loop-m.m-index ≡ length ms = omega (arith, c.loop-m-test.false, c.loop-m.auto.m-index-end) in
    signs_told c.args.w.now c.args.c c.args.name c.loop-m.numbers ms c.loop-m.signs.items c.requires.named
    (subst (AreFirst c.args.w.now c.args.c c.args.name c.loop-m.numbers ms c.loop-m.signs.items) all c.loop-m.invariant)
