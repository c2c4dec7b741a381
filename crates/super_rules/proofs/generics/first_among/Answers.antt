use Rattle.std.proofs.Common.{None, length, refl, arith}
use Rattle.std.proofs.lemmas.Option.{slice_get_read}
use Rattle.type_headers.specs.Declared.{declarations, place_of}
use Rattle.super_rules.proofs.Sets.{GenericAt, below_none, generic_next, generic_first}
use Rattle.super_rules.proofs.generics.first_among.Goals as goal

pub loop-entry-init : goal.loop-entry-init
loop-entry-init c = λ java fs types has set. below_none (declarations fs) (GenericAt java fs types) None

pub loop-entry-preserved : goal.loop-entry-preserved
loop-entry-preserved c = λ java fs types has set.
    let es = c.args.entries.now in
    let k = c.loop-entry.entry-index in
    let e = c.entry-item.result in
    let there = has.each k e (slice_get_read es (length es) k e refl c.loop-entry-test.true c.entry-item.is) in
    generic_next java fs types k e there.0 there.1 there.2 c.args.generic.now c.has_generic.result c.loop-entry.first c.noted-first.result set
    (c.has_generic.ensures (place_of java fs types there.0) (let is = there.2 in is.place)) c.noted-first.ensures (c.loop-entry.invariant java fs types has set)

pub returns : goal.returns
returns c = λ java fs types has set.
    generic_first java fs types c.loop-entry.entry-index c.loop-entry.first (let size = has.size in omega (arith, size, c.loop-entry-test.false)) (c.loop-entry.invariant java fs types has set)
