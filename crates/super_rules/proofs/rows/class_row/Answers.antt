use Rattle.std.proofs.Common.{◌≡◌, ◌⊎◌, inl, inr, Some, false, map, sym, ap, subst, ◌∙◌}
use Rattle.std.proofs.lemmas.List.{take_all}
use Rattle.java_tree.specs.View.{type_plain}
use Rattle.super_rules.specs.Looks.{IsRow, SaysClass, SaysOneOf}
use Rattle.super_rules.proofs.Edged.{row_begins, row_empty, row_adds, row_keeps, row_alike}
use Rattle.super_rules.proofs.rows.class_row.Goals as goal
use Rattle.super_rules.proofs.rows.class_row.Goals.{in-Some+in_ok-push, in_default}

pub loop-x-init : goal.loop-x-init
loop-x-init c = λ p at. row_begins (SaysClass p c.args.entry.now.scope.types.now) (λ g. ⊥) c.new-row.result (row_empty c.new-row.result c.new-row.ensures)

pub loop-x-preserved : goal.loop-x-preserved
loop-x-preserved c = λ p at.
    let types = c.args.entry.now.scope.types.now in
    let xs = c.as_slice-x-items.result.now in
    let i = c.loop-x.x-index in
    let x = c.x-item.result in
    let says = c.in_ok-number.ensures p at in
    elim c.match-branch-2.branch [
      | in-Some+in_ok-push w ↦
          rw (w.row-is, w.in_ok-push.ensures.ok) (row_adds type_plain (SaysClass p types) (λ g. ⊥) xs i x c.loop-x.row w.in-Some.number c.loop-x-test.true c.x-item.is
          (λ g. (λ same. (says g).0 (w.in-Some.is ∙ ap Some same), λ s. let both : Some w.in-Some.number ≡ Some g = sym w.in-Some.is ∙ (says g).1 s in cc both)) (c.loop-x.invariant p at))
      | in_default w ↦
          rw w.row-is (row_keeps type_plain (SaysClass p types) (λ g. ⊥) xs i x c.loop-x.row c.loop-x-test.true c.x-item.is (λ g s. w.in_default.not-Some g ((says g).1 s)) (c.loop-x.invariant p at))
    ]

pub returns : goal.returns
returns c = λ p at.
    let types = c.args.entry.now.scope.types.now in
    let d = c.args.entry.now.decl.now in
    let all = take_all c.loop-x.x-index c.as_slice-x-items.result.now c.loop-x-test.false ∙ c.as_slice-x-items.ensures in
    row_alike c.loop-x.row (λ g. ⊥ ⊎ SaysOneOf p types (map type_plain d.extends) g) (λ g. (d.interface ≡ false) × SaysOneOf p types (map type_plain d.extends) g)
    (λ g. (λ h. elim h [ inl none ↦ absurd none | inr one ↦ (c.if-entry.false, one) ], λ h. inr h.1))
    (subst (λ xs. IsRow c.loop-x.row (λ g. ⊥ ⊎ SaysOneOf p types (map type_plain xs) g)) all (c.loop-x.invariant p at))
