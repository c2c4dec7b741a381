use Rattle.std.proofs.Common.{None, nat_eq, get_or, ap, ◌∙◌, arith}
use Rattle.std.specs.HashMap.{get}
use Rattle.std.proofs.lemmas.Option.{slice_get-get_or}
use Rattle.counted_methods.proofs.Choosing.{kept_more, kept_same, kept_all}
use Rattle.counted_methods.proofs.chosen.kept.Goals as goal
use Rattle.counted_methods.proofs.chosen.kept.Goals.{then-is_best+in_ok-push, else-is_best}

pub loop-i-preserved : goal.loop-i-preserved
loop-i-preserved c =
    let best = get nat_eq c.args.best.now in
    let ms = c.args.methods.now in
    let signs = c.args.signs.now in
    let i = c.loop-i.i in
    let m = get_or ms i 0 in
    let o = get_or signs i None in
    let at = slice_get-get_or ms i 0 c.loop-i-test.true in
    let sign = slice_get-get_or signs i None (omega (arith, c.loop-i-test.true, c.requires.size)) in
    elim c.if-is_best.branch [
      | then-is_best+in_ok-push v ↦
          kept_more best ms signs c.requires.ascending i m o at sign c.loop-i.kept.items c.if-is_best.kept.items (ap (λ v. v.items) v.kept-is ∙ v.in_ok-push.ensures.items)
          (c.is_best.ensures.0 v.if-is_best.true) c.loop-i.invariant
      | else-is_best v ↦
          rw v.kept-is (kept_same best ms signs c.requires.ascending i m o at sign c.loop-i.kept.items (λ h. let yes = c.is_best.ensures.1 h in absurd (cc (yes, v.if-is_best.false))) c.loop-i.invariant)
    ]

pub returns : goal.returns
returns c = kept_all (get nat_eq c.args.best.now) c.args.methods.now c.args.signs.now c.loop-i.kept.items c.loop-i.i (omega (arith, c.loop-i-test.false)) c.loop-i.invariant
