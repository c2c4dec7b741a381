use Rattle.std.proofs.Common.{◌≡◌, ◌<◌, Some, refl, ap, length, get_or, arith}
use Rattle.std.specs.Prelude.{slice_get, slice_set}
use Rattle.std.proofs.lemmas.Option.{slice_get_read, slice_get-get_or}
use Rattle.overrides.proofs.Groups.{listing_begins, listing_next, listing_ends}
use Rattle.overrides.proofs.listed.lists_of.Goals as goal

pub loop-m-init : goal.loop-m-init
loop-m-init c = listing_begins c.args.labels.now c.loop.lists.items c.loop.counter c.loop.invariant (omega (arith, c.loop-test.false, c.loop.auto.counter-end))

pub index_mut-requires : goal.index_mut-requires
index_mut-requires c =
    let labels = c.args.labels.now in
    let lt = c.requires.within c.loop-m.m (get_or labels c.loop-m.m 0) (slice_get-get_or labels c.loop-m.m 0 c.loop-m-test.true) in
    omega (arith, lt, c.loop-m.invariant.size, c.loop-m.lists.ok.0)

pub loop-m-preserved : goal.loop-m-preserved
loop-m-preserved c =
    let labels = c.args.labels.now in
    let lists = c.loop-m.lists.items in
    let label = get_or labels c.loop-m.m 0 in
    let at : slice_get labels c.loop-m.m ≡ Some label = slice_get-get_or labels c.loop-m.m 0 c.loop-m-test.true in
    let within : label < length lists = let lt = c.requires.within c.loop-m.m label at in omega (arith, lt, c.loop-m.invariant.size) in
    let row = slice_get_read lists (length lists) label c.index_mut.result.now refl within c.index_mut.ensures.value in
    listing_next labels lists c.loop-m.m label c.index_mut.result.now c.loop-m.invariant at row (slice_set lists label c.push-in-loop-m.new.self) (ap (slice_set lists label) c.in_ok-push-2.ensures.ok)

pub returns : goal.returns
returns c = listing_ends c.args.labels.now c.loop-m.lists.items c.loop-m.m c.loop-m.invariant c.loop-m-test.false
