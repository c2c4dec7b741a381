-- The superclass among the supertypes.
use Rattle.std.proofs.Common.{◌≡◌, ℕ, ◌+◌, ◌≤◌, false, List, Option, Some, None, inl, inr, refl, sym, ap, ◌∙◌, subst, length}
use Rattle.std.specs.Prelude.{slice_get}
use Rattle.class_world.specs.declared.world.World.{World}
use Rattle.class_world.specs.declared.world.TypeInfo.{TypeInfo}
use Rattle.class_world.specs.declared.world.JavaType.{JavaType}
use Rattle.class_world.specs.declared.world.JavaType.TheVariants as ty
use Rattle.class_world.specs.Overriding.{IsSuperclass}
use Rattle.class_world.proofs.Forms.{same_class}
use Rattle.member_methods.proofs.Firsts.{Among, among_last, among_more, among_cases, among_all, at_contains}
use Rattle.counted_methods.specs.Made.{IsClassType, TellsSuperclass}

-- what is known after the first i supertypes
abbrev pub TellsFirst : World → List JavaType → ℕ → Option ℕ → Type 0
TellsFirst w ds i None = (d : JavaType) (s : ℕ) → Among ds i d → IsClassType w d s → ⊥
TellsFirst w ds i (Some s) = ((d : JavaType) × Among ds i d × IsClassType w d s) × ((d : JavaType) (t : ℕ) → Among ds i d → IsClassType w d t → t ≡ s)

pub other_next : (w : World) (ds : List JavaType) (i : ℕ) (d : JavaType) (o : Option ℕ) → slice_get ds i ≡ Some d → ((s : ℕ) → IsClassType w d s → ⊥) → TellsFirst w ds i o → TellsFirst w ds (i + 1) o
other_next w ds i d None at not h = λ e s among is. elim (among_cases ds i e d at among) [ inl low ↦ h e s low is | inr same ↦ not s (subst (λ d. IsClassType w d s) same is) ]
other_next w ds i d (Some s) at not h = (
  (h.0.0, among_more ds i h.0.0 h.0.1, h.0.2),
  λ e t among is. elim (among_cases ds i e d at among) [ inl low ↦ h.1 e t low is | inr same ↦ absurd (not t (subst (λ d. IsClassType w d t) same is)) ],
)

pub class_next : (w : World) (ds : List JavaType) (i s : ℕ) (d : JavaType) → slice_get ds i ≡ Some d → IsClassType w d s → TellsFirst w ds i None → TellsFirst w ds (i + 1) (Some s)
class_next w ds i s d at is h = (
  (d, among_last ds i d at, is),
  λ e t among it. elim (among_cases ds i e d at among) [
    | inl low ↦ absurd (h e t low it)
    | inr same ↦ (same_class t s it.0.0 is.0.0 (sym it.0.1 ∙ same ∙ is.0.1)).0
  ],
)

-- ---- all of them

module _ (w : World) (c : ℕ) (info : TypeInfo) (at : slice_get w.types c ≡ Some info) where
  module _ (ds : List JavaType) (i : ℕ) (list : ds ≡ info.supers) (full : length ds ≤ i) where
    among_of : (s : ℕ) → IsSuperclass w c s → (d : JavaType) × Among ds i d × IsClassType w d s
    among_of s h =
        let direct = h.1.1 in
        let same : direct.0 ≡ info = cc (direct.1, at) in
        let there : slice_get ds direct.2 ≡ Some (ty.Class s h.1.0) = ap (λ l. slice_get l direct.2) list ∙ ap (λ (x : TypeInfo). slice_get x.supers direct.2) (sym same) ∙ direct.3 in
        (ty.Class s h.1.0, among_all ds i (ty.Class s h.1.0) full (at_contains ds direct.2 (ty.Class s h.1.0) there), ((h.1.0, refl), h.2))

    pub class_told : (o : Option ℕ) → info.interface ≡ false → TellsFirst w ds i o → TellsSuperclass w c o
    class_told None class h = λ s is. let d = among_of s is in h d.0 s d.1 d.2
    class_told (Some s) class h = (
      (
        (info, at, class),
        (h.0.2.0.0, (info, at, h.0.1.0, ap (λ l. slice_get l h.0.1.0) (sym list) ∙ h.0.1.2 ∙ ap (λ d. Some d) h.0.2.0.1)),
        h.0.2.1,
      ),
      λ t is. let d = among_of t is in h.1 d.0 t d.1 d.2,
    )
