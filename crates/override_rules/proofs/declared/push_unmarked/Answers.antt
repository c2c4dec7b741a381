use Rattle.std.proofs.Common.{ℕ, ◌+◌, Some, Vec, Global, ap, sym, subst, ◌∙◌, arith}
use Rattle.std.specs.Prelude.{slice_index_or as get_or}
use Rattle.std.specs.List.{Contains}
use Rattle.override_rules.specs.Judged.{Pushes}
use Rattle.override_rules.proofs.Listed.{IsBefore, item_at, item_contained, before_step, all_before, before_contained}
use Rattle.override_rules.proofs.Marking.{push_marked, push_one, pushes_alike}
use Rattle.override_rules.proofs.declared.push_unmarked.Goals as goal
use Rattle.override_rules.proofs.declared.push_unmarked.Goals.{then-marks-at+in_ok-push, else-marks-at}

pub bounds-marks-at : goal.bounds-marks-at
bounds-marks-at c = let lt = c.requires _ (item_contained c.args.methods.now c.loop-k.k-index c.loop-k-test.true) in omega (arith, lt, c.loop-k.auto.marks)

pub bounds-marks-at-then-marks-at : goal.bounds-marks-at-then-marks-at
bounds-marks-at-then-marks-at c = let lt = c.requires _ (item_contained c.args.methods.now c.loop-k.k-index c.loop-k-test.true) in omega (arith, lt, c.loop-k.auto.marks)

pub loop-k-preserved : goal.loop-k-preserved
loop-k-preserved c =
    let methods = c.args.methods.now in
    let i = c.loop-k.k-index in
    let x = get_or methods i 0 in
    let P = IsBefore methods i in
    let Q = IsBefore methods (i + 1) in
    let next = before_step methods i x (item_at methods i c.loop-k-test.true) in
    let stamp = c.args.stamp in
    let old = c.args.marks.now in
    let marks = c.loop-k.marks in
    let stack = c.args.stack.now.items in
    let mid = c.loop-k.stack.items in
    let lt = c.requires x (item_contained methods i c.loop-k-test.true) in
    let at = item_at marks x (omega (arith, lt, c.loop-k.auto.marks)) in
    elim c.if-marks-at.branch [
      | then-marks-at+in_ok-push w ↦
          push_one stamp P Q old marks stack mid x c.loop-k.invariant next c.if-marks-at.marks c.if-marks-at.stack.items (get_or marks x 0) at w.if-marks-at.true w.marks-is
          (ap (λ (s : Vec ℕ Global). s.items) w.stack-is ∙ w.in_ok-push.ensures.items)
      | else-marks-at w ↦
          subst (λ ms. Pushes Q stamp old ms stack c.if-marks-at.stack.items) (sym w.marks-is)
          (subst (Pushes Q stamp old marks stack) (sym (ap (λ (s : Vec ℕ Global). s.items) w.stack-is)) (push_marked stamp P Q old marks stack mid x c.loop-k.invariant next (at ∙ ap Some w.if-marks-at.false)))
    ]

pub returns : goal.returns
returns c =
    pushes_alike c.args.stamp (IsBefore c.args.methods.now c.loop-k.k-index) (Contains c.args.methods.now) c.args.marks.now c.loop-k.marks c.args.stack.now.items c.loop-k.stack.items
    (λ k. (before_contained c.args.methods.now c.loop-k.k-index k, all_before c.args.methods.now c.loop-k.k-index k c.loop-k-test.false)) c.loop-k.invariant
