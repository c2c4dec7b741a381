use Rattle.std.proofs.Common.{◌≡◌, length, sym, subst, arith}
use Rattle.found_methods.specs.Own.{HoldsOwn}
use Rattle.found_methods.specs.Supers.{AreRanked}
use Rattle.found_methods.proofs.Ranks.{ranked}
use Rattle.found_methods.proofs.FoundMethods.of.Goals as goal

pub returns : goal.returns
returns c =
    let w = c.args.w.now in
    let labels = c.in_ok-labels.labels.items in
    let holds = subst (λ ls. HoldsOwn w ls (length w.methods) c.in_ok-own.own) c.as_slice.ensures.value c.in_ok-own.ensures in
    let order = c.in_ok-order.order.items in
    let most : c.len-most.result ≡ length order = omega (arith, c.len-most.ensures, c.in_ok-order.order.ok.0) in
    record {
      callees = c.in_ok-callees.ensures;
      labels = c.in_ok-labels.ensures;
      groups = holds.groups;
      firsts = c.in_ok-firsts.ensures labels holds;
      supers = c.in_ok-supers.ensures;
      ranked = subst (AreRanked w) (sym most) (ranked w order c.in_ok-order.ensures);
    }
