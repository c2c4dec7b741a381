use Rattle.std.proofs.Common.{◌+◌, ◌-◌, refl, arith}
use Rattle.std.specs.Prelude.{◌/◌}
use Rattle.inherited_rules.specs.Chains.{IsBelow}
use Rattle.inherited_rules.proofs.Chained.{above_before, not_above_after, cut_all, cut_none, item_is, lower_half, middle_within, upper_half}
use Rattle.inherited_rules.proofs.chain.first_not_below.Goals as goal

pub loop-low-init : goal.loop-low-init
loop-low-init c = cut_all (λ q. IsBelow c.args.w.now q c.args.r.now) (λ q. IsBelow c.args.w.now q c.args.r.now → ⊥) c.args.chain.now _ refl

pub loop-low-preserved-then-is_below : goal.loop-low-preserved-then-is_below
loop-low-preserved-then-is_below c =
    let w = c.args.w.now in
    let r = c.args.r.now in
    let xs = c.args.chain.now in
    let q = c.index-chain-middle.result in
    let low = c.loop-low.low in
    let high = c.loop-low.high in
    let middle = low + (high - low) / 2 in
    let lt = middle_within low high c.loop-low-test.true in
    let within = c.loop-low.invariant.within in
    let at = item_is xs middle q (omega (arith, lt, within)) c.index-chain-middle.is in
    upper_half (λ q. IsBelow w q r) (λ q. IsBelow w q r → ⊥) xs low middle high c.loop-low.invariant (omega arith) lt (above_before w xs c.requires.chain r q middle at (c.is_below.ensures.0 c.if-is_below.true))

pub loop-low-preserved : goal.loop-low-preserved
loop-low-preserved c =
    let w = c.args.w.now in
    let r = c.args.r.now in
    let xs = c.args.chain.now in
    let q = c.index-chain-middle.result in
    let low = c.loop-low.low in
    let high = c.loop-low.high in
    let middle = low + (high - low) / 2 in
    let lt = middle_within low high c.loop-low-test.true in
    let within = c.loop-low.invariant.within in
    let at = item_is xs middle q (omega (arith, lt, within)) c.index-chain-middle.is in
    lower_half (λ q. IsBelow w q r) (λ q. IsBelow w q r → ⊥) xs low middle high c.loop-low.invariant (omega arith) lt (not_above_after w xs c.requires.chain r q middle at (λ below. let yes = c.is_below.ensures.1 below in cc (yes, c.if-is_below.false)))

pub returns : goal.returns
returns c = cut_none (λ q. IsBelow c.args.w.now q c.args.r.now) (λ q. IsBelow c.args.w.now q c.args.r.now → ⊥) c.args.chain.now c.loop-low.low c.loop-low.high c.loop-low-test.false c.loop-low.invariant
