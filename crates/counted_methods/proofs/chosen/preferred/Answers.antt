use Rattle.std.proofs.Common.{None, Some, nat_eq, get_or, ap, ◌∙◌, arith}
use Rattle.std.specs.HashMap.{get}
use Rattle.std.proofs.lemmas.Option.{slice_get-get_or}
use Rattle.counted_methods.proofs.Choosing.{best_next, best_skip}
use Rattle.counted_methods.proofs.chosen.preferred.Goals as goal
use Rattle.counted_methods.proofs.chosen.preferred.Goals.{in-Some+in_ok-add_better, in_default}

pub loop-i-preserved : goal.loop-i-preserved
loop-i-preserved c =
    let w = c.args.w.now in
    let above = c.args.above.now in
    let ms = c.args.methods.now in
    let signs = c.args.signs.now in
    let i = c.loop-i.i in
    let m = get_or ms i 0 in
    let at = slice_get-get_or ms i 0 c.loop-i-test.true in
    let sign = slice_get-get_or signs i None (omega (arith, c.loop-i-test.true, c.requires.size)) in
    elim c.match-signs-i.branch [
      | in-Some+in_ok-add_better v ↦
          rw v.best-is (best_next w above ms signs i m v.in-Some.sign (get nat_eq c.loop-i.best) (get nat_eq v.add_better.new.best) at (sign ∙ ap Some v.in-Some.is) v.in_ok-add_better.ensures c.loop-i.invariant)
      | in_default v ↦ rw v.best-is (best_skip w above ms signs i (get nat_eq c.loop-i.best) (sign ∙ ap Some v.in_default.is) c.loop-i.invariant)
    ]
