use Rattle.std.proofs.Common.{◌≡◌, ℕ, ◌-◌, suc, List, [], ◌++◌, inl, inr, sym, ap, ◌∙◌, subst, arith}
use Rattle.std.proofs.lemmas.List.{append-nil}
use Rattle.std.proofs.lemmas.Nat.{pow_pos}
use Rattle.shared_maps.specs.Trees.{entry_of}
use Rattle.shared_maps.proofs.Nodes.{IsBare, bare_first}
use Rattle.shared_maps.proofs.Walks.{twice}
use Rattle.shared_maps.proofs.Listed.{none_listed, one_listed, past_listed}
use Rattle.shared_maps.proofs.trees.+add_entries.Goals as goal

same_with_none : (xs ys : List (ℕ × ℕ)) → ys ≡ [] → xs ≡ xs ++ ys
same_with_none xs ys none = sym (append-nil xs) ∙ ap (λ zs. xs ++ zs) (sym none)

pub returns-then-root-eq0 : goal.returns-then-root-eq0
returns-then-root-eq0 t c =
    let nodes = c.args.nodes.now in
    same_with_none c.args.entries.now.items _ (elim c.then-root-eq0.either [
      | inl root ↦ none_listed nodes c.requires.arena c.args.keys c.args.levels c.args.root c.args.from (subst (IsBare nodes) (sym root) (bare_first nodes c.requires.arena))
      | inr past ↦ past_listed nodes c.args.keys c.args.levels c.args.root c.args.from past.1
    ])

pub returns-in_ok-push : goal.returns-in_ok-push
returns-in_ok-push t c =
    let one = one_listed c.args.nodes.now c.args.keys c.args.levels c.args.root c.args.from c.if-levels-eq0.true c.if-from-keys.false in
    let added = ap (λ zs. c.args.entries.now.items ++ zs) (sym (one ∙ ap (entry_of c.args.from) (sym c.in-Some.ensures))) in
    cc (c.in_ok-push.ensures.items, added)

pub returns-in_default : goal.returns-in_default
returns-in_default t c =
    let one = one_listed c.args.nodes.now c.args.keys c.args.levels c.args.root c.args.from c.if-levels-eq0.true c.if-from-keys.false in
    same_with_none c.args.entries.now.items _ (one ∙ ap (entry_of c.args.from) (sym c.in_default.ensures))

pub add_entries-requires : goal.add_entries-requires
add_entries-requires t c =
    let one_less : c.args.levels ≡ suc (c.args.levels - 1) = omega (arith, c.if-levels-eq0.false) in
    let double = twice (c.args.levels - 1) c.args.levels one_less in
    (omega arith, (c.requires.arena, (omega arith, omega (arith, double, c.requires.end))))

pub overflow_add-from : goal.overflow_add-from
overflow_add-from t c =
    let one_less : c.args.levels ≡ suc (c.args.levels - 1) = omega (arith, c.if-levels-eq0.false) in
    let double = twice (c.args.levels - 1) c.args.levels one_less in
    omega (arith, double, c.requires.end, c.half_of-half.ensures, pow_pos (c.args.levels - 1))

pub add_entries-requires-2 : goal.add_entries-requires-2
add_entries-requires-2 t c =
    let one_less : c.args.levels ≡ suc (c.args.levels - 1) = omega (arith, c.if-levels-eq0.false) in
    let double = twice (c.args.levels - 1) c.args.levels one_less in
    (omega arith, (c.requires.arena, (omega arith, omega (arith, double, c.requires.end, c.half_of-half.ensures))))
