use Rattle.std.proofs.Common.{rules, ◌≡◌, ℕ, ◌⊎◌, ◌↔◌, ◌∙◌, ◌≤◌, [], ◌∷◌, ◌++◌, ap, subst, Some, length, refl}
use Rattle.std.specs.Prelude.{slice_get, Contains}
use Rattle.std.proofs.lemmas.Option.{slice_get_read}
use Rattle.member_fields.proofs.Heights.{IsClassOf, above_is, classes_next, zero_first, zero_nowhere}
use Rattle.member_fields.proofs.inherited.classes_above.Goals as goal
use Rattle.member_fields.proofs.inherited.classes_above.Goals.{then-is_under_object+in_ok-push, else-is_under_object}

pub loop-t-preserved : goal.loop-t-preserved
loop-t-preserved c =
    let items = c.as_slice-t-items.result.now in
    let at : slice_get items c.loop-t.t-index ≡ Some c.t-item.result = slice_get_read items (length items) c.loop-t.t-index c.t-item.result refl c.loop-t-test.true c.t-item.is in
    classes_next items c.loop-t.t-index c.t-item.result c.if-is_under_object.above.items c.loop-t.above.items c.add_class_of.new.classes.items at c.loop-t.invariant c.in_ok-add_class_of.ensures

pub returns : goal.returns
returns c =
    let info = c.in-Some.info.now in
    let first = c.if-is_under_object.above.items in
    let above = c.loop-t.above.items in
    let i = c.loop-t.t-index in
    let past : length info.supers ≤ i = subst (λ xs. length xs ≤ i) c.as_slice-t-items.ensures c.loop-t-test.false in
    above_is c.args.w.now c.requires c.args.c i info first above (search rules) (elim c.if-is_under_object.branch [
      | then-is_under_object+in_ok-push w ↦
          zero_first first (ap (λ v. v.items) w.above-is ∙ w.in_ok-push.ensures.items ∙ ap (λ xs. xs ++ 0 ∷ []) c.new-above.ensures.items) (c.is_under_object.ensures.0 w.if-is_under_object.true)
      | else-is_under_object w ↦
          zero_nowhere first (ap (λ v. v.items) w.above-is ∙ c.new-above.ensures.items) (λ h. let yes = c.is_under_object.ensures.1 h in absurd (cc (yes, w.if-is_under_object.false)))
    ]) past (subst (λ ts. (s : ℕ) → Contains above s ↔ (Contains first s ⊎ IsClassOf ts i s)) c.as_slice-t-items.ensures c.loop-t.invariant)
