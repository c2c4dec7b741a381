use Rattle.std.proofs.Common.{rules, ◌≡◌, ◌∙◌, ap, arith, subst, sym, map, List, Some, None}
use Rattle.java_tree.specs.declared.tree.Expr.{Expr}
use Rattle.java_tree.specs.View as view
use Rattle.operator_rules.specs.declared.uses.Use.TheVariants as use_
use Rattle.std.specs.Result.{IfOk}
use Rattle.java_tree.specs.declared.tree.ExprForm as form
use Rattle.member_uses.specs.declared.receiver.Dotted.TheVariants as dots
use Rattle.member_uses.specs.Receivers.{before}
use Rattle.member_uses.specs.Targets.{AType, dotted}
use Rattle.java_tree.proofs.Views.{plain_items, plain_call_on}
use Rattle.java_core.specs.View.{plain}
use Rattle.checked.specs.Checked.{Meets}
use Rattle.type_kinds.specs.Kinds.{element}
use Rattle.check_expr.specs.Typed.{dotted_call, typed_for, typeds, filled_by, items}
use Rattle.check_expr.proofs.Steps.{lower, typed_step, item_step}
use Rattle.check_expr.proofs.exprs.+check.Goals as goal

pub check_all-check_for-requires : goal.check_all-check_for-requires
check_all-check_for-requires t c =
    let low = lower c.args.es.now c.loop-e.e-index c.e-item.result c.loop-e-test.true c.e-item.is in
    (rw (← c.decreases) (omega (arith, low)), c.requires.ready)

pub check_all-loop-e-preserved : goal.check_all-loop-e-preserved
check_all-loop-e-preserved t c = λ f d.
    typed_step f c.args.place.now c.args.locals.now c.args.es.now c.loop-e.e-index c.e-item.result c.loop-e.done c.push.new.self c.in_ok-check_for.field-0
    c.loop-e-test.true c.e-item.is (c.in_ok-check_for.ensures f d) c.in_ok-push.ensures.ok (c.loop-e.invariant f d)

pub check_items-check_for-of-requires : goal.check_items-check_for-of-requires
check_items-check_for-of-requires t c =
    let low = lower c.args.es.now c.loop-e.e-index c.e-item.result c.loop-e-test.true c.e-item.is in
    (rw (← c.decreases) (omega (arith, low)), c.requires.ready)

pub check_items-loop-e-preserved : goal.check_items-loop-e-preserved
check_items-loop-e-preserved t c = λ f d.
    let e = c.e-item.result in
    let a = typed_for f c.args.place.now c.args.locals.now (Some c.args.ty.now) use_.Read (view.plain e) in
    item_step f c.args.place.now c.args.locals.now c.args.ty.now c.args.es.now c.loop-e.e-index e c.loop-e.done c.push.new.self c.in_ok-item.field-0
    c.loop-e-test.true c.e-item.is (c.in_ok-item.ensures f d a (c.check_for-of.ensures f d)) c.in_ok-push.ensures.ok (c.loop-e.invariant f d)

pub check_for-returns-in-Some-to : goal.check_for-returns-in-Some-to
check_for-returns-in-Some-to t c = λ f d.
    rw (c.in-Some-to.is, plain_items c.args.e.now c.in-Items.items c.in-Items.is)
    (subst (λ (xs : List Expr). Meets plain c.check_filling.result (filled_by c.args.e.now.node c.in-Some-to.to.now (element c.in-Some-to.to.now) (λ y. items f c.args.place.now c.args.locals.now y (view.plains xs))))
    c.as_slice-in-Some-to.ensures (c.check_filling.ensures f d))

-- a call behind the name of a type
pub check_for-returns-in-Ok-Type-before : goal.check_for-returns-in-Ok-Type-before
check_for-returns-in-Ok-Type-before t c = λ f d.
    let g = c.args.place.now in
    let ls = c.args.locals.now in
    let of = c.in-Some.of in
    let name = c.in-Call.name in
    let args = c.in-Call.args in
    let at = c.in-Ok-Type-before.at in
    let class = c.in-Ok-Type-before.class in
    let a = typed_for f g ls None use_.Read (view.plain of) in
    let xs = typeds f g ls (view.plains args) in
    let is : c.args.e.now.form ≡ form.Call (Some of) name args = c.in-Call.is ∙ ap (λ o. form.Call o name args) c.in-Some.is in
    let type : c.in-Ok-Type-before.field-0 ≡ dots.Type at class = search rules in
    let told : before c.in-Ok-Type-before.field-0 ≡ dotted f g ls (view.plain c.get-in-Some.result.now) =
    subst (λ r. IfOk r (λ x. before x ≡ dotted f g ls (view.plain c.get-in-Some.result.now))) c.in-Ok-Type-before.is (c.dotted-before-in-Some.ensures f d) in
    let same : AType at class ≡ dotted f g ls (view.plain of) =
    ap before (sym type) ∙ told ∙ ap (λ (x : Expr). dotted f g ls (view.plain x)) c.get-in-Some.ensures in
    let all : Meets (map plain) c.check_all-args-in-Ok-Type-before.result xs =
    subst (λ (es : List Expr). Meets (map plain) c.check_all-args-in-Ok-Type-before.result (typeds f g ls (view.plains es))) c.as_slice-in-Ok-Type-before.ensures
    (c.check_all-args-in-Ok-Type-before.ensures f d) in
    rw (plain_call_on c.args.e.now of name args is)
    (subst (λ x. Meets plain c.call_on_type.result (dotted_call f g c.args.how c.args.e.now.node x a name xs)) same (c.call_on_type.ensures f d a xs all))
