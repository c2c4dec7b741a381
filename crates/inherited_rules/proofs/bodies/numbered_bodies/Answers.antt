use Rattle.std.proofs.Common.{ℕ, List, ◌↔◌, sym, subst}
use Rattle.std.specs.List.{Contains}
use Rattle.std.specs.List.Sorted.{IsStrictlyIncreasing}
use Rattle.method_ties.proofs.Firsts.{once_rising}
use Rattle.inherited_rules.specs.Rules.{IsAbstractMethod}
use Rattle.inherited_rules.proofs.bodies.numbered_bodies.Goals as goal

pub of-requires-clause-once : goal.of-requires-clause-once
of-requires-clause-once c = once_rising c.as_slice.result.now (subst IsStrictlyIncreasing (sym c.as_slice.ensures.value) c.in_ok-bodies.ensures.ascending)

pub returns : goal.returns
returns c =
    let w = c.args.w.now in
    let ks = c.as_slice.result.now in
    let has = subst (λ (l : List ℕ). (k : ℕ) → Contains l k ↔ (Contains c.args.members.now k × (IsAbstractMethod w k → ⊥))) (sym c.as_slice.ensures.value) c.in_ok-bodies.ensures.has in
    (ks, (λ k. (λ h. let t = (has k).0 h in ((c.requires.members k).0 t.0, t.1), λ h. (has k).1 ((c.requires.members k).1 h.0, h.1))), c.in_ok-numbered.ensures)
