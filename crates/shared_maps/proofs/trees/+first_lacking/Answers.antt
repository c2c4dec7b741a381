use Rattle.std.proofs.Common.{◌≡◌, ◌-◌, suc, inl, inr, refl, sym, subst, arith}
use Rattle.shared_maps.proofs.Nodes.{IsBare, bare_first}
use Rattle.shared_maps.proofs.Lacking.{bare_lacks, first_in_high, first_in_low, none_below_from, none_in_high, none_in_low, same_lacks}
use Rattle.shared_maps.proofs.trees.+first_lacking.Goals as goal

pub returns-then-left-right : goal.returns-then-left-right
returns-then-left-right t c k =
    let nodes = c.args.nodes.now in
    elim c.then-left-right.either [
      | inl same ↦ same_lacks nodes c.args.levels c.args.left c.args.right c.args.from k same
      | inr none ↦ bare_lacks nodes c.args.levels c.args.left c.args.right c.args.from k c.requires.arena (subst (IsBare nodes) (sym none.1) (bare_first nodes c.requires.arena))
    ]

pub returns-in_err-key : goal.returns-in_err-key
returns-in_err-key t c =
    let one_less : c.args.levels ≡ suc (c.args.levels - 1) = omega (arith, c.if-levels-eq0.false) in
    let l = c.halves-left_low.result in
    let r = c.halves-right_low.result in
    rw c.from_residual.ensures
    (none_in_high c.args.nodes.now c.args.levels (c.args.levels - 1) c.args.left l.0 l.1 c.args.right r.0 r.1 c.args.from c.half_of-half.result one_less c.half_of-half.ensures c.halves-left_low.ensures
    c.halves-right_low.ensures (c.args.from - c.half_of-half.result) refl
    (none_below_from c.args.nodes.now c.args.levels (c.args.levels - 1) c.args.left l.0 l.1 c.args.right r.0 r.1 c.args.from c.half_of-half.result one_less c.half_of-half.ensures
    c.halves-left_low.ensures c.halves-right_low.ensures c.if-from-half.true) c.in_err-key.ensures)

pub returns-then-from-half : goal.returns-then-from-half
returns-then-from-half t c =
    let one_less : c.args.levels ≡ suc (c.args.levels - 1) = omega (arith, c.if-levels-eq0.false) in
    let l = c.halves-left_low.result in
    let r = c.halves-right_low.result in
    first_in_high c.args.nodes.now c.args.levels (c.args.levels - 1) c.args.left l.0 l.1 c.args.right r.0 r.1 c.args.from c.half_of-half.result one_less c.half_of-half.ensures
    c.halves-left_low.ensures c.halves-right_low.ensures (c.args.from - c.half_of-half.result) refl
    (none_below_from c.args.nodes.now c.args.levels (c.args.levels - 1) c.args.left l.0 l.1 c.args.right r.0 r.1 c.args.from c.half_of-half.result one_less c.half_of-half.ensures
    c.halves-left_low.ensures c.halves-right_low.ensures c.if-from-half.true) c.in_ok-key.key c.in_ok-key.ensures

pub returns-in-Some : goal.returns-in-Some
returns-in-Some t c =
    let one_less : c.args.levels ≡ suc (c.args.levels - 1) = omega (arith, c.if-levels-eq0.false) in
    let l = c.halves-left_low.result in
    let r = c.halves-right_low.result in
    first_in_low c.args.nodes.now c.args.levels (c.args.levels - 1) c.args.left l.0 l.1 c.args.right r.0 r.1 c.args.from c.half_of-half.result one_less c.half_of-half.ensures
    c.halves-left_low.ensures c.halves-right_low.ensures c.in-Some.key c.in-Some.ensures

pub returns-in_err-key-2 : goal.returns-in_err-key-2
returns-in_err-key-2 t c =
    let one_less : c.args.levels ≡ suc (c.args.levels - 1) = omega (arith, c.if-levels-eq0.false) in
    let l = c.halves-left_low.result in
    let r = c.halves-right_low.result in
    rw c.from_residual-in_err-key-2.ensures
    (none_in_high c.args.nodes.now c.args.levels (c.args.levels - 1) c.args.left l.0 l.1 c.args.right r.0 r.1 c.args.from c.half_of-half.result one_less c.half_of-half.ensures c.halves-left_low.ensures
    c.halves-right_low.ensures 0 (omega (arith, c.if-from-half.false))
    (none_in_low c.args.nodes.now c.args.levels (c.args.levels - 1) c.args.left l.0 l.1 c.args.right r.0 r.1 c.args.from c.half_of-half.result one_less c.half_of-half.ensures c.halves-left_low.ensures
    c.halves-right_low.ensures c.in_default.ensures) c.in_err-key-2.ensures)

pub returns : goal.returns
returns t c =
    let one_less : c.args.levels ≡ suc (c.args.levels - 1) = omega (arith, c.if-levels-eq0.false) in
    let l = c.halves-left_low.result in
    let r = c.halves-right_low.result in
    first_in_high c.args.nodes.now c.args.levels (c.args.levels - 1) c.args.left l.0 l.1 c.args.right r.0 r.1 c.args.from c.half_of-half.result one_less c.half_of-half.ensures
    c.halves-left_low.ensures c.halves-right_low.ensures 0 (omega (arith, c.if-from-half.false))
    (none_in_low c.args.nodes.now c.args.levels (c.args.levels - 1) c.args.left l.0 l.1 c.args.right r.0 r.1 c.args.from c.half_of-half.result one_less c.half_of-half.ensures c.halves-left_low.ensures
    c.halves-right_low.ensures c.in_default.ensures) c.in_ok-key-2.key c.in_ok-key-2.ensures
