use Rattle.std.proofs.Common.{◌≡◌, ◌-◌, suc, true, false, inl, inr, sym, ◌∙◌, subst, arith}
use Rattle.std.proofs.lemmas.Nat.{pow_pos}
use Rattle.std.proofs.lemmas.Result.{IfOk-weaker}
use Rattle.shared_maps.specs.Trees.{DiffersIn}
use Rattle.shared_maps.proofs.Nodes.{IsBare, bare_first}
use Rattle.shared_maps.proofs.Walks.{twice}
use Rattle.shared_maps.proofs.Differing.{adds_halves, adds_none, alone_differs, left_never, past_never, right_never, same_never}
use Rattle.shared_maps.proofs.trees.+add_differing.Goals as goal

pub returns-then-left-right : goal.returns-then-left-right
returns-then-left-right t c =
    let nodes = c.args.nodes.now in
    let bare : IsBare nodes 0 = bare_first nodes c.requires.arena in
    adds_none c.args.different.now.items (DiffersIn nodes c.args.keys c.args.levels c.args.left c.args.right c.args.from) (λ k. elim c.then-left-right.either [
      | inl same ↦ same_never nodes c.requires.arena c.args.keys c.args.levels c.args.left c.args.right c.args.from k same
      | inr other ↦ elim other [
        | inl left ↦ left_never nodes c.requires.arena c.args.keys c.args.levels c.args.left c.args.right c.args.from k (subst (IsBare nodes) (sym left.1) bare)
        | inr some ↦ elim some [
          | inl right ↦ right_never nodes c.requires.arena c.args.keys c.args.levels c.args.left c.args.right c.args.from k (subst (IsBare nodes) (sym right.2) bare)
          | inr past ↦ past_never nodes c.requires.arena c.args.keys c.args.levels c.args.left c.args.right c.args.from k past.3
        ]
      ]
    ])

pub returns-else-differ : goal.returns-else-differ
returns-else-differ t c =
    let nodes = c.args.nodes.now in
    adds_none c.args.different.now.items (DiffersIn nodes c.args.keys c.args.levels c.args.left c.args.right c.args.from) (λ k is.
    let so : false ≡ true = sym c.if-differ.false ∙ c.differ.ensures.1 (alone_differs nodes c.args.keys c.args.levels c.args.left c.args.right c.args.from k c.if-levels-eq0.true is).1 in
    absurd (cc so))

pub add_differing-requires : goal.add_differing-requires
add_differing-requires t c =
    let one_less : c.args.levels ≡ suc (c.args.levels - 1) = omega (arith, c.if-levels-eq0.false) in
    let double = twice (c.args.levels - 1) c.args.levels one_less in
    (omega arith, (c.requires.arena, (omega arith, omega (arith, double, c.requires.end))))

pub overflow_add-from : goal.overflow_add-from
overflow_add-from t c =
    let one_less : c.args.levels ≡ suc (c.args.levels - 1) = omega (arith, c.if-levels-eq0.false) in
    let double = twice (c.args.levels - 1) c.args.levels one_less in
    omega (arith, double, c.requires.end, c.half_of-half.ensures, pow_pos (c.args.levels - 1))

pub add_differing-requires-2 : goal.add_differing-requires-2
add_differing-requires-2 t c =
    let one_less : c.args.levels ≡ suc (c.args.levels - 1) = omega (arith, c.if-levels-eq0.false) in
    let double = twice (c.args.levels - 1) c.args.levels one_less in
    (omega arith, (c.requires.arena, (omega arith, omega (arith, double, c.requires.end, c.half_of-half.ensures))))

pub returns : goal.returns
returns t c =
    let one_less : c.args.levels ≡ suc (c.args.levels - 1) = omega (arith, c.if-levels-eq0.false) in
    let l = c.halves-left_low.result in
    let r = c.halves-right_low.result in
    IfOk-weaker c.add_differing-2.result _ _ (λ _ upper.
    adds_halves c.args.nodes.now c.args.keys c.args.levels (c.args.levels - 1) c.args.left l.0 l.1 c.args.right r.0 r.1 c.args.from c.half_of-half.result one_less c.half_of-half.ensures
    c.halves-left_low.ensures c.halves-right_low.ensures c.args.different.now.items c.add_differing.new.different.items c.add_differing-2.new.different.items c.in_ok-add_differing.ensures upper)
    c.add_differing-2.ensures
