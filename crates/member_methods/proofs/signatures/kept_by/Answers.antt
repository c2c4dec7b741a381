use Rattle.std.proofs.Common.{sym, ◌∙◌, ap, get_or, arith}
use Rattle.std.proofs.lemmas.Bool.{true≢false}
use Rattle.std.proofs.lemmas.List.Elements.{Contains-get_or}
use Rattle.std.proofs.lemmas.Option.{slice_get-get_or}
use Rattle.member_methods.specs.Signed.{IsReplaced}
use Rattle.member_methods.proofs.Firsts.{push_kept, skip_kept, all_kept}
use Rattle.member_methods.proofs.signatures.kept_by.Goals as goal
use Rattle.member_methods.proofs.signatures.kept_by.Goals.{then-not-branch+in_ok-push, else-not-branch}

pub loop-m-preserved : goal.loop-m-preserved
loop-m-preserved c = λ t own named.
    let xs = c.args.above.now in
    let m = get_or xs c.loop-m.m-index 0 in
    let at = slice_get-get_or xs c.loop-m.m-index 0 c.loop-m-test.true in
    let told = c.in_ok-is_taken_out.ensures t own (named m (Contains-get_or xs c.loop-m.m-index 0 c.loop-m-test.true)) in
    elim c.if-not-branch.branch [
      | then-not-branch+in_ok-push w ↦
          push_kept (λ k. IsReplaced c.args.w.now t c.args.methods.now k → ⊥) xs c.loop-m.kept.items c.if-not-branch.kept.items c.loop-m.m-index m (c.loop-m.invariant t own named) at
          (λ p. true≢false (sym (told.1 p) ∙ w.if-not-branch.true)) (ap (λ v. v.items) w.kept-is ∙ w.in_ok-push.ensures.items)
      | else-not-branch w ↦
          rw w.kept-is (skip_kept (λ k. IsReplaced c.args.w.now t c.args.methods.now k → ⊥) xs c.loop-m.kept.items c.loop-m.m-index m (c.loop-m.invariant t own named) at (λ not. not (told.0 w.if-not-branch.false)))
    ]

pub returns : goal.returns
returns c = λ t own named. all_kept (λ m. IsReplaced c.args.w.now t c.args.methods.now m → ⊥) c.args.above.now c.loop-m.kept.items c.loop-m.m-index (omega arith) (c.loop-m.invariant t own named)
