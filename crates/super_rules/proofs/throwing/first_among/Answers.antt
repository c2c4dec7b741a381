use Rattle.std.proofs.Common.{None, length, refl, arith}
use Rattle.std.proofs.lemmas.Option.{slice_get_read}
use Rattle.type_headers.specs.Declared.{declarations}
use Rattle.super_rules.proofs.Sets.{SuperAt, below_none, below_more, super_first}
use Rattle.super_rules.proofs.throwing.first_among.Goals as goal

pub loop-at-init : goal.loop-at-init
loop-at-init c = λ java fs types has cyclic throwable. below_none (declarations fs) (SuperAt java fs types) None

pub loop-at-preserved : goal.loop-at-preserved
loop-at-preserved c = λ java fs types has cyclic throwable.
    let es = c.args.entries.now in
    let k = c.loop-at.at in
    let e = c.index-entries-at.result in
    let there = has.each k e (slice_get_read es (length es) k e refl c.loop-at-test.true c.index-entries-at.is) in
    below_more k (declarations fs) (SuperAt java fs types) there.0 None c.loop-at.first c.note_type-first.result there.1 (c.loop-at.invariant java fs types has cyclic throwable)
    (c.note_type-first.ensures java fs types there.0 there.2 cyclic throwable)

pub returns : goal.returns
returns c = λ java fs types has cyclic throwable.
    super_first java fs types c.loop-at.at c.loop-at.first (let size = has.size in omega (arith, size, c.loop-at-test.false)) (c.loop-at.invariant java fs types has cyclic throwable)
