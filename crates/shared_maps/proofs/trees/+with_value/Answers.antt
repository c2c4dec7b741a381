use Rattle.std.proofs.Common.{◌≡◌, ◌-◌, ◌^◌, suc, sym, ap, ◌∙◌, subst, arith}
use Rattle.std.specs.Prelude.{slice_get}
use Rattle.std.proofs.lemmas.Result.{IfOk-weaker}
use Rattle.shared_maps.specs.Trees.{high_of, low_of}
use Rattle.shared_maps.proofs.Nodes.{halves_inside}
use Rattle.shared_maps.proofs.Walks.{IsWith, twice, with_high, with_low}
use Rattle.shared_maps.proofs.trees.+with_value.Goals as goal

pub joined-requires-clause-high : goal.joined-requires-clause-high
joined-requires-clause-high t c =
    let inside = halves_inside c.args.nodes.now c.requires.arena c.args.root in
    let is = c.halves-low.ensures.high ∙ ap (λ ns. high_of (slice_get ns c.args.root)) c.as_slice.ensures in
    omega (arith, inside.1, is, c.in_ok-low.ensures.grows.size)

pub with_value-requires-else-key-half : goal.with_value-requires-else-key-half
with_value-requires-else-key-half t c =
    let one_less : c.args.levels ≡ suc (c.args.levels - 1) = omega (arith, c.if-levels-eq0.false) in
    let double = twice (c.args.levels - 1) c.args.levels one_less in
    (omega arith, (c.requires.arena, (omega arith, omega (arith, double, c.requires.key, c.half_of-half.ensures, c.if-key-half.false))))

pub joined-requires-else-key-half-clause-low : goal.joined-requires-else-key-half-clause-low
joined-requires-else-key-half-clause-low t c =
    let inside = halves_inside c.args.nodes.now c.requires.arena c.args.root in
    let is = c.halves-low.ensures.low ∙ ap (λ ns. low_of (slice_get ns c.args.root)) c.as_slice.ensures in
    omega (arith, inside.0, is, c.in_ok-high.ensures.grows.size)

pub returns-in_ok-low-clause-value : goal.returns-in_ok-low-clause-value
returns-in_ok-low-clause-value t c =
    let old = c.args.nodes.now in
    let mid = c.with_value.new.nodes in
    let less = c.args.levels - 1 in
    let one_less : c.args.levels ≡ suc (c.args.levels - 1) = omega (arith, c.if-levels-eq0.false) in
    let low = c.halves-low.ensures.low ∙ ap (λ ns. low_of (slice_get ns c.args.root)) c.as_slice.ensures in
    let high = c.halves-low.ensures.high ∙ ap (λ ns. high_of (slice_get ns c.args.root)) c.as_slice.ensures in
    let half : IsWith old (low_of (slice_get old c.args.root)) mid less c.in_ok-low.low c.args.key c.args.value =
    subst (λ r. IsWith old r mid less c.in_ok-low.low c.args.key c.args.value) low (record { each = c.in_ok-low.ensures.value }) in
    IfOk-weaker c.joined.result _ _ (λ n is.
    (with_low old mid c.joined.new.nodes c.args.levels less c.args.root n c.args.key c.in_ok-low.low c.args.value one_less c.requires.arena c.in_ok-low.ensures.arena c.in_ok-low.ensures.grows
    c.joined.ensures.grows (omega (arith, c.if-key-half.true, c.half_of-half.ensures)) c.in_ok-low.ensures.within half (sym is.low) (sym is.high ∙ high)).each) c.joined.ensures.halves

pub returns-in_ok-high-clause-value : goal.returns-in_ok-high-clause-value
returns-in_ok-high-clause-value t c =
    let old = c.args.nodes.now in
    let mid = c.with_value-else-key-half.new.nodes in
    let less = c.args.levels - 1 in
    let one_less : c.args.levels ≡ suc (c.args.levels - 1) = omega (arith, c.if-levels-eq0.false) in
    let low = c.halves-low.ensures.low ∙ ap (λ ns. low_of (slice_get ns c.args.root)) c.as_slice.ensures in
    let high = c.halves-low.ensures.high ∙ ap (λ ns. high_of (slice_get ns c.args.root)) c.as_slice.ensures in
    let first : IsWith old c.halves-low.result.1 mid less c.in_ok-high.high (c.args.key - c.half_of-half.result) c.args.value = record { each = c.in_ok-high.ensures.value } in
    let half : IsWith old (high_of (slice_get old c.args.root)) mid less c.in_ok-high.high (c.args.key - 2 ^ less) c.args.value =
    subst (λ r. IsWith old r mid less c.in_ok-high.high (c.args.key - 2 ^ less) c.args.value) high
    (subst (λ h. IsWith old c.halves-low.result.1 mid less c.in_ok-high.high (c.args.key - h) c.args.value) c.half_of-half.ensures first) in
    IfOk-weaker c.joined-else-key-half.result _ _ (λ n is.
    (with_high old mid c.joined-else-key-half.new.nodes c.args.levels less c.args.root n c.args.key c.in_ok-high.high c.args.value one_less c.requires.arena c.in_ok-high.ensures.arena
    c.in_ok-high.ensures.grows c.joined-else-key-half.ensures.grows (omega (arith, c.if-key-half.false, c.half_of-half.ensures)) c.in_ok-high.ensures.within half (sym is.low ∙ low) (sym is.high)).each)
    c.joined-else-key-half.ensures.halves
