use Rattle.std.proofs.Common.{◌+◌, ◌-◌, refl, arith}
use Rattle.std.specs.Prelude.{◌/◌}
use Rattle.method_ties.proofs.Firsts.{at_contains}
use Rattle.inherited_rules.specs.Chains.{IsBelow}
use Rattle.inherited_rules.proofs.Chained.{above_before, below_after, cut_all, cut_none, item_is, lower_half, middle_within, upper_half}
use Rattle.inherited_rules.proofs.chain.place_in.Goals as goal

pub loop-low-init : goal.loop-low-init
loop-low-init c = cut_all (λ q. IsBelow c.args.w.now q c.args.r.now) (IsBelow c.args.w.now c.args.r.now) c.args.chain.now _ refl

pub loop-low-preserved-in-Below : goal.loop-low-preserved-in-Below
loop-low-preserved-in-Below c =
    let w = c.args.w.now in
    let r = c.args.r.now in
    let xs = c.args.chain.now in
    let q = c.index-chain-middle.result in
    let low = c.loop-low.low in
    let high = c.loop-low.high in
    let middle = low + (high - low) / 2 in
    let lt = middle_within low high c.loop-low-test.true in
    let within = c.loop-low.invariant.within in
    lower_half (λ q. IsBelow w q r) (IsBelow w r) xs low middle high c.loop-low.invariant (omega arith) lt
    (below_after w xs c.requires.chain r q middle (item_is xs middle q (omega (arith, lt, within)) c.index-chain-middle.is) c.in-Below.ensures)

pub loop-low-preserved : goal.loop-low-preserved
loop-low-preserved c =
    let w = c.args.w.now in
    let r = c.args.r.now in
    let xs = c.args.chain.now in
    let q = c.index-chain-middle.result in
    let low = c.loop-low.low in
    let high = c.loop-low.high in
    let middle = low + (high - low) / 2 in
    let lt = middle_within low high c.loop-low-test.true in
    let within = c.loop-low.invariant.within in
    upper_half (λ q. IsBelow w q r) (IsBelow w r) xs low middle high c.loop-low.invariant (omega arith) lt
    (above_before w xs c.requires.chain r q middle (item_is xs middle q (omega (arith, lt, within)) c.index-chain-middle.is) c.in-Above.ensures)

pub returns-in-Apart : goal.returns-in-Apart
returns-in-Apart c =
    let xs = c.args.chain.now in
    let q = c.index-chain-middle.result in
    let low = c.loop-low.low in
    let high = c.loop-low.high in
    let middle = low + (high - low) / 2 in
    let lt = middle_within low high c.loop-low-test.true in
    let within = c.loop-low.invariant.within in
    (q, at_contains xs middle q (item_is xs middle q (omega (arith, lt, within)) c.index-chain-middle.is), c.in-Apart.ensures)

pub returns : goal.returns
returns c =
    let w = c.args.w.now in
    let r = c.args.r.now in
    cut_none (λ q. IsBelow w q r) (IsBelow w r) c.args.chain.now c.loop-low.low c.loop-low.high c.loop-low-test.false c.loop-low.invariant
