-- Marks of texts, one behind the other.
use Rattle.std.proofs.Common.{◌≡◌, ℕ, zero, suc, ◌⊎◌, inl, inr, List, [], ◌∷◌, ◌++◌, length, Some, refl, sym, ap, ◌∙◌, subst}
use Rattle.std.specs.Prelude.{slice_get}
use Rattle.edit_writer.specs.declared.places.Place.{Place}
use Rattle.line_tables.specs.Marks.{AreMarks}
use Rattle.refactor_app.specs.Marked.{AreTables, marks_at}

-- one table more tells of its own file alone
at_next : (tables : List (List Place)) (ms : List Place) (k : ℕ) → ((k ≡ length tables) × (marks_at (tables ++ (ms ∷ [])) k ≡ ms)) ⊎ (marks_at (tables ++ (ms ∷ [])) k ≡ marks_at tables k)
at_next [] ms zero = inl (refl, refl)
at_next [] ms (suc k) = inr refl
at_next (t ∷ ts) ms zero = inr refl
at_next (t ∷ ts) ms (suc k) = elim (at_next ts ms k) [
  | inl h ↦ inl (ap suc h.0, h.1)
  | inr h ↦ inr h
]

pub one_more : (texts : List (List ℕ)) (tables : List (List Place)) (i : ℕ) (x : List ℕ) (ms : List Place) → length tables ≡ i → slice_get texts i ≡ Some x → AreMarks x ms
    → AreTables texts tables → AreTables texts (tables ++ (ms ∷ []))
one_more texts tables i x ms count at are so_far = λ k y at_k. elim (at_next tables ms k) [
  | inl h ↦
      let here : slice_get texts k ≡ Some x = ap (slice_get texts) (h.0 ∙ count) ∙ at in
      let same : x ≡ y = cc in
      subst (AreMarks y) (sym h.1) (subst (λ (z : List ℕ). AreMarks z ms) same are)
  | inr h ↦ subst (AreMarks y) (sym h) (so_far k y at_k)
]
