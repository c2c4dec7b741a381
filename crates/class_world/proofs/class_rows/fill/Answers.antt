use Rattle.std.proofs.Common.{◌∙◌, refl, arith}
use Rattle.std.proofs.lemmas.Option.{slice_get-get_or, slice_get_read}
use Rattle.class_world.proofs.Meets as by
use Rattle.class_world.proofs.class_rows.fill.Goals as goal

pub loop-d-init : goal.loop-d-init
loop-d-init c = record {
  len = c.set.ensures.len;
  filling = λ k info at known. by.filling_begins c.args.w.now c.requires.supers c.args.listed.now k c.args.place info c.supers_of-d-items.result.now c.args.words.now c.set.new.words at known c.requires.none c.set.ensures.sets;
}

pub full_row-requires-clause-class : goal.full_row-requires-clause-class
full_row-requires-clause-class c =
    let items = c.supers_of-d-items.result.now in
    let at = slice_get-get_or c.args.listed.now c.args.place 0 c.requires.within in
    let there = slice_get_read items _ c.loop-d.d-index c.d-item.result refl c.loop-d-test.true c.d-item.is in
    by.super_type c.args.w.now c.requires.supers _ c.d-item.result (by.direct_there c.args.w.now c.args.listed.now c.args.place _ _ c.loop-d.d-index items c.d-item.result at at c.supers_of-d-items.ensures there)

pub set_all-requires : goal.set_all-requires
set_all-requires c =
    by.row_within c.args.w.now c.args.listed.now c.d-item.result c.in-Some.row.now _ (c.in-Some.ensures.row c.args.listed.now c.requires.rows) (c.loop-d.invariant.len ∙ c.requires.len)

pub loop-d-preserved : goal.loop-d-preserved
loop-d-preserved c =
    let w = c.args.w.now in
    let d = c.d-item.result in
    let listed = c.args.listed.now in
    let items = c.supers_of-d-items.result.now in
    let first = slice_get-get_or listed c.args.place 0 c.requires.within in
    let there = slice_get_read items _ c.loop-d.d-index d refl c.loop-d-test.true c.d-item.is in
    record {
      len = c.set_all.ensures.len ∙ c.loop-d.invariant.len;
      filling = λ k info at known.
          by.filling_next w c.requires.supers listed k c.args.place info items c.loop-d.d-index d c.loop-d.words c.in-Some.row.now c.set_all.new.words known (c.loop-d.invariant.filling k info at known) there
          (by.direct_there w listed c.args.place _ k c.loop-d.d-index items d first at c.supers_of-d-items.ensures there) (c.in-Some.ensures.row listed c.requires.rows) c.set_all.ensures.sets;
    }

pub returns : goal.returns
returns c = λ yes k info at known.
    let listed = c.args.listed.now in
    let items = c.supers_of-d-items.result.now in
    let first = slice_get-get_or listed c.args.place 0 c.requires.within in
    by.filling_ends c.args.w.now c.requires.supers listed k c.args.place info items c.loop-d.d-index c.loop-d.words at known
    (by.supers_there c.args.w.now listed c.args.place _ k items first at c.supers_of-d-items.ensures) (omega arith) (c.loop-d.invariant.filling k info at known)
