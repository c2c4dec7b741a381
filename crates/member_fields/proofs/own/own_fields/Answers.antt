use Rattle.std.proofs.Common.{◌≡◌, ◌∙◌, ◌≤◌, Some, ap, length, refl, subst, sym, arith}
use Rattle.std.specs.Prelude.{slice_get}
use Rattle.std.proofs.lemmas.List.{length-replicate}
use Rattle.std.proofs.lemmas.Option.{slice_get_read}
use Rattle.member_fields.proofs.Owners.{all_listed, lists_next, none_own}
use Rattle.member_fields.proofs.own.own_fields.Goals as goal

pub loop-f-init : goal.loop-f-init
loop-f-init c =
    let size = ap length c.loop.invariant ∙ length-replicate _ _ in
    record {
      size = omega (arith, size, c.loop-test.false, c.len-end.ensures);
      lists = λ d g. (λ h. absurd (none_own c.loop.counter c.loop.own.items c.loop.invariant d g h), λ h. absurd (omega (arith, h.0)));
    }

pub loop-f-preserved : goal.loop-f-preserved
loop-f-preserved c =
    let w = c.args.w.now in
    let items = c.as_slice-field-items.result.now in
    let at : slice_get w.fields c.loop-f.f ≡ Some c.field-item.result =
    ap (λ xs. slice_get xs c.loop-f.f) (sym c.as_slice-field-items.ensures) ∙ slice_get_read items (length items) c.loop-f.f c.field-item.result refl c.loop-f-test.true c.field-item.is in
    record {
      size = omega (arith, c.in_ok-add_own.ensures.size, c.loop-f.invariant.size);
      lists = lists_next w c.loop-f.own.items c.add_own.new.own.items c.loop-f.f c.field-item.result at c.loop-f.invariant.lists c.in_ok-add_own.ensures.added;
    }

pub returns : goal.returns
returns c =
    let past = subst (λ xs. length xs ≤ c.loop-f.f) c.as_slice-field-items.ensures c.loop-f-test.false in
    all_listed c.args.w.now c.loop-f.own.items c.loop-f.f past c.loop-f.invariant.size c.loop-f.invariant.lists
