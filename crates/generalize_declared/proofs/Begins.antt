-- The byte at a line and column of a file, and the place that begins there.
use Rattle.std.proofs.Common.{◌≡◌, ℕ, zero, suc, ◌<◌, ◌≤◌, ◌^◌, ◌⊎◌, inl, inr, List, [], ◌∷◌, length, Option, Some, None, Result, Ok, Err, IfOk, slice_get, sym, ap, ◌∙◌, subst, arith}
use Rattle.java_tree.specs.declared.fault.NoMemory.{NoMemory}
use Rattle.class_world.specs.declared.world.World.{World}
use Rattle.edit_writer.specs.declared.places.Place.{Place}
use Rattle.edit_writer.specs.Places.{place_at}
use Rattle.edit_writer.proofs.Lines.{low_place}
use Rattle.java_core.specs.declared.program.CoreFile.{CoreFile}
use Rattle.java_core.specs.View.{file_plain}
use Rattle.source_files.specs.Held.{AreSmall}
use Rattle.type_places.specs.declared.places.TypePlace.{TypePlace}
use Rattle.type_places.specs.Places.{place_in}
use Rattle.generalize_declared.specs.declared.asked.CheckedSource.{CheckedSource}
use Rattle.generalize_declared.specs.declared.asked.Wish.{Wish}
use Rattle.generalize_declared.specs.Asked.{BeginsAt, HasPlace, IsPlaceOf, PlaceIs}

pub small_at : (texts : List (List ℕ)) (k : ℕ) (x : List ℕ) → AreSmall texts → slice_get texts k ≡ Some x → length x ≤ 1048576
small_at [] k x h e = absurd (cc)
small_at (y ∷ ys) zero x (room, more) e = let same : y ≡ x = cc in subst (λ (z : List ℕ). length z ≤ 1048576) same room
small_at (y ∷ ys) (suc k) x (room, more) e = small_at ys k x more e

same_place : (p q : Place) → p.line ≡ q.line → p.col ≡ q.col → p ≡ q
same_place p q line col = ap (λ l. record { line = l; col = p.col }) line ∙ ap (λ c. record { line = q.line; col = c }) col

module _ (w : World) (s : CheckedSource) (x : Wish) where
  pub too_far : AreSmall s.texts.now → (2 ^ 32 ≤ x.line) ⊎ (2 ^ 32 ≤ x.col) → (p : TypePlace) → HasPlace w s x p → ⊥
  too_far small far p h =
      let low = low_place h.begins.text h.at in
      let size = small_at s.texts.now x.file h.begins.text small h.begins.there in
      let line = h.begins.line in
      let col = h.begins.col in
      elim far [ inl f ↦ omega (arith, low.0, size, f, line) | inr f ↦ omega (arith, low.1, size, f, col) ]

  pub no_text : slice_get s.texts.now x.file ≡ None → (p : TypePlace) → HasPlace w s x p → ⊥
  no_text none p h = let both : None ≡ Some h.begins.text = sym none ∙ h.begins.there in absurd (cc)

  pub no_file : slice_get s.core.now.files x.file ≡ None → (p : TypePlace) → HasPlace w s x p → ⊥
  no_file none p h = let both : None ≡ Some h.file = sym none ∙ h.core in absurd (cc)

  module _ (text : List ℕ) (there : slice_get s.texts.now x.file ≡ Some text) (place : Place) (asked : IsPlaceOf x (Some place)) where
    -- the byte of a place that begins there is one of this text
    begun : (at : ℕ) → BeginsAt s x at → (at < length text) × (place_at text at ≡ place)
    begun at b =
        let both : Some b.text ≡ Some text = sym b.there ∙ there in
        let same : b.text ≡ text = cc in
        let at_line = ap (λ t. (place_at t at).line) (sym same) ∙ b.line ∙ sym asked.0 in
        let at_col = ap (λ t. (place_at t at).col) (sym same) ∙ b.col ∙ sym asked.1 in
        (subst (λ t. at < length t) same b.within, same_place (place_at text at) place at_line at_col)

    pub nowhere : ((q : ℕ) → q < length text → place_at text q ≡ place → ⊥) → (p : TypePlace) → HasPlace w s x p → ⊥
    nowhere none p h = let b = begun h.at h.begins in none h.at b.0 b.1

    module _ (file : CoreFile) (core : slice_get s.core.now.files x.file ≡ Some file) (at : ℕ) (within : at < length text) (is : place_at text at ≡ place)
        (alone : (q : ℕ) → q < length text → place_at text q ≡ place → q ≡ at) where
      placed : (o : Option TypePlace) → o ≡ place_in w (file_plain file) at → PlaceIs w s x o
      placed (Some p) e = record {
        at = at;
        begins = record { text = text; there = there; within = within; line = ap (λ (p : Place). p.line) is ∙ asked.0; col = ap (λ (p : Place). p.col) is ∙ asked.1 };
        file = file;
        core = core;
        is = sym e;
      }
      placed None e = λ p h.
          let b = begun h.at h.begins in
          let same = alone h.at b.0 b.1 in
          let files : Some h.file ≡ Some file = sym h.core ∙ core in
          let one : h.file ≡ file = cc in
          let found : None ≡ Some p = e ∙ ap (λ f. place_in w (file_plain f) at) (sym one) ∙ ap (λ k. place_in w (file_plain h.file) k) (sym same) ∙ h.is in
          absurd (cc)

      pub found : (r : Result (Option TypePlace) NoMemory) → IfOk r (λ o. o ≡ place_in w (file_plain file) at) → IfOk r (PlaceIs w s x)
      found (Ok o) e = placed o e
      found (Err e) h = h
