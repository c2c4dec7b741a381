use Rattle.std.proofs.Common.{◌≡◌, Some, ◌∙◌, refl, sym, subst, arith, length}
use Rattle.std.specs.Prelude.{slice_get}
use Rattle.std.proofs.lemmas.Option.{slice_get_read}
use Rattle.class_world.specs.Meets.{AgreeBefore, AreRows}
use Rattle.class_world.proofs.Meets as by
use Rattle.class_world.proofs.joins.all_agree.Goals as goal

pub loop-at-init : goal.loop-at-init
loop-at-init c = record {
  len = refl;
  agree = by.agree_begins c.args.w.now c.requires.supers c.args.supers.now;
  bits = by.bits_begin c.args.w.now c.args.rows.now.listed c.args.supers.now c.args.above.now;
  paths = c.requires.paths;
}

pub full_row-requires-clause-class : goal.full_row-requires-clause-class
full_row-requires-clause-class c =
    let there : slice_get c.args.supers.now c.loop-at.at ≡ Some c.index-supers-at.result = slice_get_read c.args.supers.now _ c.loop-at.at _ refl c.loop-at-test.true c.index-supers-at.is in
    (c.requires.singles c.loop-at.at _ there).0

pub set_all-requires : goal.set_all-requires
set_all-requires c =
    let w = c.args.w.now in
    let all = c.args.rows.now in
    let row = c.in-Some.ensures.row all.listed (subst (AreRows w all.listed) (sym c.as_slice.ensures) c.requires.rows.rows) in
    by.row_within w all.listed c.index-supers-at.result c.in-Some.row.now _ row (c.loop-at.invariant.len ∙ c.requires.len)

pub loop-at-preserved : goal.loop-at-preserved
loop-at-preserved c =
    let w = c.args.w.now in
    let all = c.args.rows.now in
    let there : slice_get c.args.supers.now c.loop-at.at ≡ Some c.index-supers-at.result = slice_get_read c.args.supers.now _ c.loop-at.at _ refl c.loop-at-test.true c.index-supers-at.is in
    let row = c.in-Some.ensures.row all.listed (subst (AreRows w all.listed) (sym c.as_slice.ensures) c.requires.rows.rows) in
    record {
      len = c.set_all.ensures.len ∙ c.loop-at.invariant.len;
      agree = c.in_ok-agrees.ensures.agree c.if-not-branch.false;
      bits = by.bits_next w all.listed c.args.supers.now c.loop-at.at c.index-supers-at.result c.loop-at.above c.in-Some.row.now c.set_all.new.words c.loop-at.invariant.bits there row c.set_all.ensures.sets;
      paths = c.in_ok-agrees.ensures.paths;
    }

pub returns-clause-agree : goal.returns-clause-agree
returns-clause-agree c = λ yes.
    let end : c.loop-at.at ≡ length c.args.supers.now = omega arith in
    subst (AgreeBefore c.args.w.now c.args.supers.now) end c.loop-at.invariant.agree
