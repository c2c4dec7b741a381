use Rattle.std.proofs.Common.{◌≡◌, Some, refl, sym, ap, ◌∙◌, subst, length}
use Rattle.std.specs.Prelude.{slice_get}
use Rattle.std.proofs.lemmas.Option.{slice_get_read}
use Rattle.class_world.specs.Types.{with_own}
use Rattle.class_world.specs.Subtypes.{Subtype}
use Rattle.class_world.specs.Meets.{IsFullType}
use Rattle.class_world.proofs.Meets as by
use Rattle.class_world.proofs.joins.settle.Goals as goal

pub set_all-requires : goal.set_all-requires
set_all-requires c =
    let w = c.args.w.now in
    let all = c.args.rows.now in
    let m = c.in-Some.meet.now in
    let e = c.in-Some-first_leading.earlier.now in
    let full = (by.at_some (λ t. IsFullType w m t × Subtype w e t) c.in_ok-t.field-0 c.in-Some-2.t c.in-Some-2.is c.in_ok-t.ensures.above).0 in
    let there : slice_get all.rows m ≡ Some (Some c.as_slice.result.now) = sym c.in-Some-Some.ensures.value ∙ ap (λ x. Some x) (c.in-Some-Some.field-0-is ∙ ap (λ row. Some row) (sym c.as_slice.ensures)) in
    by.row_within w all.listed (with_own m full.2.params) c.as_slice.result.now (length c.args.settled.now) (c.requires.rows.rows m full.2 c.as_slice.result.now full.3 there) c.requires.len

pub returns-clause-settled : goal.returns-clause-settled
returns-clause-settled c = λ yes.
    let w = c.args.w.now in
    let all = c.args.rows.now in
    let m = c.in-Some.meet.now in
    let e = c.in-Some-first_leading.earlier.now in
    let d = c.index-supers-at.result in
    let t = c.in-Some-2.t in
    let first = by.at_some (λ t. IsFullType w m t × Subtype w e t) c.in_ok-t.field-0 t c.in-Some-2.is c.in_ok-t.ensures.above in
    let second = by.at_some (λ t. IsFullType w m t × Subtype w d t) c.in_ok-u.field-0 c.in-Some-3.u c.in-Some-3.is c.in_ok-u.ensures.above in
    let alike : t ≡ c.in-Some-3.u = c.is_same.ensures.0 c.if-not-is_same.false in
    let there : slice_get all.rows m ≡ Some (Some c.as_slice.result.now) = sym c.in-Some-Some.ensures.value ∙ ap (λ x. Some x) (c.in-Some-Some.field-0-is ∙ ap (λ row. Some row) (sym c.as_slice.ensures)) in
    let at : slice_get c.args.supers.now c.args.at ≡ Some d = slice_get_read c.args.supers.now _ c.args.at d refl c.requires.within c.index-supers-at.is in
    let earlier = c.in-Some-first_leading.ensures in
    by.settles w c.requires.supers all.listed all.rows c.args.supers.now c.args.at earlier.0 m d e t c.args.settled.now c.as_slice.result.now c.set_all.new.words c.requires.rows.rows c.requires.singles c.requires.agree earlier.1 earlier.2 at
    first.0 first.1 (subst (Subtype w d) (sym alike) second.1) there c.requires.settled c.set_all.ensures.sets
