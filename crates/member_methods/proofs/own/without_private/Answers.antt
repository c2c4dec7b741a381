use Rattle.std.proofs.Common.{sym, ◌∙◌, ap, get_or, arith}
use Rattle.std.proofs.lemmas.Bool.{true≢false}
use Rattle.std.proofs.lemmas.Option.{slice_get-get_or}
use Rattle.class_world.specs.Inheritance.{IsPrivateMethod}
use Rattle.member_methods.proofs.Firsts.{push_kept, skip_kept, all_kept}
use Rattle.member_methods.proofs.own.without_private.Goals as goal
use Rattle.member_methods.proofs.own.without_private.Goals.{then-not-is_private+in_ok-push, else-not-is_private}

pub loop-m-preserved : goal.loop-m-preserved
loop-m-preserved c =
    let xs = c.args.methods.now in
    let m = get_or xs c.loop-m.m-index 0 in
    let at = slice_get-get_or xs c.loop-m.m-index 0 c.loop-m-test.true in
    elim c.if-not-is_private.branch [
      | then-not-is_private+in_ok-push w ↦
          push_kept (λ k. IsPrivateMethod c.args.w.now k → ⊥) xs c.loop-m.open.items c.if-not-is_private.open.items c.loop-m.m-index m c.loop-m.invariant at
          (λ p. true≢false (sym (c.is_private.ensures.1 p) ∙ w.if-not-is_private.true)) (ap (λ v. v.items) w.open-is ∙ w.in_ok-push.ensures.items)
      | else-not-is_private w ↦
          rw w.open-is (skip_kept (λ k. IsPrivateMethod c.args.w.now k → ⊥) xs c.loop-m.open.items c.loop-m.m-index m c.loop-m.invariant at (λ not. not (c.is_private.ensures.0 w.if-not-is_private.false)))
    ]

pub returns : goal.returns
returns c = all_kept (λ m. IsPrivateMethod c.args.w.now m → ⊥) c.args.methods.now c.loop-m.open.items c.loop-m.m-index (omega arith) c.loop-m.invariant
