use Rattle.std.proofs.Common.{nat_eq, length, subst, Vec, Global, ℕ}
use Rattle.std.specs.HashMap.{get}
use Rattle.counted_methods.specs.Chosen.{AreChosen, AreKeptBy, IsBest}
use Rattle.counted_methods.proofs.Firsts.{if_ok}
use Rattle.counted_methods.proofs.Choosing.{chosen_told}
use Rattle.counted_methods.proofs.chosen.chosen.Goals as goal

pub returns : goal.returns
returns c =
    let w = c.args.w.now in
    let above = c.args.above.now in
    let ms = c.args.methods.now in
    let signs = c.in_ok-signs.signs.items in
    let best = get nat_eq c.in_ok-best.best in
    let is = subst (λ s. IsBest w above ms s (length ms) best) c.as_slice.ensures.value c.in_ok-best.ensures in
    if_ok c.kept.result (λ (v : Vec ℕ Global). AreKeptBy best ms c.as_slice-2.result.now v.items) (λ (v : Vec ℕ Global). AreChosen w c.args.c above ms v.items)
    (λ v h. chosen_told w c.args.c above ms signs best v.items c.in_ok-signs.ensures is (subst (λ s. AreKeptBy best ms s v.items) c.as_slice-2.ensures.value h)) c.kept.ensures
