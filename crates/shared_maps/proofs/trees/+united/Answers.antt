use Rattle.std.proofs.Common.{◌≡◌, ◌-◌, suc, inl, inr, sym, subst, arith}
use Rattle.std.proofs.lemmas.Result.{IfOk-weaker}
use Rattle.shared_maps.specs.Trees.{HasHalves}
use Rattle.shared_maps.proofs.Nodes.{IsBare, bare_first, has_inside}
use Rattle.shared_maps.proofs.Unions.{union_halves, union_of_none, union_same, union_with_none}
use Rattle.shared_maps.proofs.trees.+united.Goals as goal

pub returns-then-left-right-clause-value : goal.returns-then-left-right-clause-value
returns-then-left-right-clause-value t c =
    let nodes = c.args.nodes.now in
    elim c.then-left-right.either [
      | inl same ↦ (union_same nodes c.args.levels c.args.left c.args.right same).each
      | inr none ↦ (union_with_none nodes c.requires.arena c.args.levels c.args.left c.args.right (subst (IsBare nodes) (sym none.1) (bare_first nodes c.requires.arena))).each
    ]

pub returns-then-left-eq0-clause-value : goal.returns-then-left-eq0-clause-value
returns-then-left-eq0-clause-value t c =
    let nodes = c.args.nodes.now in
    (union_of_none nodes c.requires.arena c.args.levels c.args.left c.args.right (subst (IsBare nodes) (sym c.if-left-eq0.true) (bare_first nodes c.requires.arena))).each

pub united-requires : goal.united-requires
united-requires t c =
    let old = c.args.nodes.now in
    let l = c.halves-left_low.result in
    let r = c.halves-right_low.result in
    let of_left = subst (λ ns. HasHalves ns c.args.left l.0 l.1) c.as_slice-2.ensures c.halves-left_low.ensures in
    let of_right = subst (λ ns. HasHalves ns c.args.right r.0 r.1) c.as_slice-3.ensures c.halves-right_low.ensures in
    (omega arith, (c.requires.arena, (omega arith, ((has_inside old c.requires.arena c.args.left l.0 l.1 of_left).0, (has_inside old c.requires.arena c.args.right r.0 r.1 of_right).0))))

pub united-requires-2 : goal.united-requires-2
united-requires-2 t c =
    let old = c.args.nodes.now in
    let l = c.halves-left_low.result in
    let r = c.halves-right_low.result in
    let of_left = subst (λ ns. HasHalves ns c.args.left l.0 l.1) c.as_slice-2.ensures c.halves-left_low.ensures in
    let of_right = subst (λ ns. HasHalves ns c.args.right r.0 r.1) c.as_slice-3.ensures c.halves-right_low.ensures in
    let left = (has_inside old c.requires.arena c.args.left l.0 l.1 of_left).1 in
    let right = (has_inside old c.requires.arena c.args.right r.0 r.1 of_right).1 in
    let size = c.in_ok-low.ensures.grows.size in
    (omega arith, (c.in_ok-low.ensures.arena, (omega arith, (omega (arith, left, size), omega (arith, right, size)))))

pub returns-clause-value : goal.returns-clause-value
returns-clause-value t c =
    let less = c.args.levels - 1 in
    let one_less : c.args.levels ≡ suc (c.args.levels - 1) = omega (arith, c.if-levels-eq0.false) in
    let l = c.halves-left_low.result in
    let r = c.halves-right_low.result in
    let of_left = subst (λ ns. HasHalves ns c.args.left l.0 l.1) c.as_slice-2.ensures c.halves-left_low.ensures in
    let of_right = subst (λ ns. HasHalves ns c.args.right r.0 r.1) c.as_slice-3.ensures c.halves-right_low.ensures in
    let lower = c.in_ok-low.ensures in
    let upper = c.in_ok-high.ensures in
    IfOk-weaker c.joined_or_own.result _ _ (λ n is.
    (union_halves c.args.nodes.now c.united.new.nodes c.united-2.new.nodes c.joined_or_own.new.nodes c.args.levels less c.args.left l.0 l.1 c.args.right r.0 r.1 c.in_ok-low.low c.in_ok-high.high n
    one_less c.requires.arena lower.arena upper.arena lower.grows upper.grows c.joined_or_own.ensures.grows of_left of_right lower.within upper.within (record { each = lower.value })
    (record { each = upper.value }) is).each) c.joined_or_own.ensures.halves
