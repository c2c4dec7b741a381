use Rattle.std.proofs.Common.{◌≡◌, ℕ, ◌+◌, ◌<◌, Bool, true, false, List, [], ◌∷◌, ◌++◌, Some, ◌⊎◌, inl, inr, ◌↔◌, sym, ap, ◌∙◌, arith}
use Rattle.std.specs.Prelude.{slice_get, Contains}
use Rattle.std.proofs.lemmas.Option.{slice_get-get_or, slice_get_within}
use Rattle.std.proofs.lemmas.List.Elements.{Contains-append_left, Contains-append_right, Contains-push_cases}
use Rattle.type_reach.proofs.marked.marked_nodes.Goals as goal
use Rattle.type_reach.proofs.marked.marked_nodes.Goals.{then-mark+in_ok-push, else-mark}

abbrev Marked : List Bool → List ℕ → ℕ → Type 0
Marked marks nodes i = (a : ℕ) → Contains nodes a ↔ ((a < i) × (slice_get marks a ≡ Some true))

module _ (marks : List Bool) (nodes : List ℕ) (i : ℕ) (so_far : Marked marks nodes i) where
  low_or_last : (a : ℕ) → a < i + 1 → (a < i) ⊎ (a ≡ i)
  low_or_last a h = grind (arith, h)

  marked_more : slice_get marks i ≡ Some true → Marked marks (nodes ++ i ∷ []) (i + 1)
  marked_more is a = (
    λ has. elim (Contains-push_cases nodes i a has) [
      | inl old ↦ let h = (so_far a).0 old in (omega (arith, h.0), h.1)
      | inr same ↦ (omega (arith, same), ap (slice_get marks) (sym same) ∙ is)
    ],
    λ h. elim (low_or_last a h.0) [
      | inl lt ↦ Contains-append_left nodes (i ∷ []) a ((so_far a).1 (lt, h.1))
      | inr same ↦ Contains-append_right nodes (i ∷ []) a (0, omega arith, sym same)
    ],
  )

  not_marked : slice_get marks i ≡ Some false → Marked marks nodes (i + 1)
  not_marked is a = (
    λ has. let h = (so_far a).0 has in (omega (arith, h.0), h.1),
    λ h. elim (low_or_last a h.0) [
      | inl lt ↦ (so_far a).1 (lt, h.1)
      | inr same ↦ let never : Some false ≡ Some true = sym is ∙ ap (slice_get marks) (sym same) ∙ h.1 in absurd (cc never)
    ],
  )

pub loop-node-preserved : goal.loop-node-preserved
loop-node-preserved c = elim c.if-mark.branch [
  | then-mark+in_ok-push w ↦
      let items : c.if-mark.nodes.items ≡ c.loop-node.nodes.items ++ c.loop-node.node ∷ [] = ap (λ v. v.items) w.nodes-is ∙ w.in_ok-push.ensures.items in
      rw items (marked_more c.args.marks.now c.loop-node.nodes.items c.loop-node.node c.loop-node.invariant (slice_get-get_or c.args.marks.now c.loop-node.node false c.loop-node-test.true ∙ ap Some w.if-mark.true))
  | else-mark w ↦
      rw w.nodes-is (not_marked c.args.marks.now c.loop-node.nodes.items c.loop-node.node c.loop-node.invariant (slice_get-get_or c.args.marks.now c.loop-node.node false c.loop-node-test.true ∙ ap Some w.if-mark.false))
]

pub returns : goal.returns
returns c = let h = c.loop-node.invariant in λ a. (λ has. ((h a).0 has).1, λ is. (h a).1 (let lt = slice_get_within c.args.marks.now a true is in omega (arith, lt, c.loop-node-test.false), is))
