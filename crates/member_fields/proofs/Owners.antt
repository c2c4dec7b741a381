-- The lists of what each type declares.
use Rattle.std.proofs.Common.{◌≡◌, ℕ, ◌+◌, ◌<◌, ◌≤◌, zero, suc, List, [], ◌∷◌, ◌++◌, Some, ◌⊎◌, inl, inr, ◌↔◌, sym, ap, ◌∙◌, subst, length, arith}
use Rattle.std.specs.Prelude.{slice_get, slice_set, Contains, replicate}
use Rattle.std.proofs.lemmas.Option.{slice_get_within}
use Rattle.class_world.specs.declared.world.World.{World}
use Rattle.class_world.specs.declared.world.FieldInfo.{FieldInfo}
use Rattle.class_world.proofs.Words.{same_or_other, set_here, set_there}
use Rattle.member_fields.specs.Own.{HasOwn, ListsFields, Owns}
use Rattle.member_fields.proofs.Lists.{at_front, last_cases, last_contained, none_contained}

pub empty_more : (own new : List (List ℕ)) → new ≡ own ++ [] ∷ [] → (c g : ℕ) → HasOwn new c g ↔ HasOwn own c g
empty_more own new is c g = (
  λ h. elim (last_cases own [] h.0 c (ap (λ xs. slice_get xs c) (sym is) ∙ h.1)) [
    | inl at ↦ (h.0, at, h.2)
    | inr none ↦ absurd (none_contained g (subst (λ fs. Contains fs g) none h.2))
  ],
  λ h. (h.0, ap (λ xs. slice_get xs c) is ∙ at_front own ([] ∷ []) c h.0 h.1, h.2),
)

pub own_more : (own : List (List ℕ)) (owner f : ℕ) (row row' : List ℕ) → slice_get own owner ≡ Some row → row' ≡ row ++ f ∷ []
    → (c g : ℕ) → HasOwn (slice_set own owner row') c g ↔ (HasOwn own c g ⊎ ((c ≡ owner) × (g ≡ f)))
own_more own owner f row row' at is c g = (λ h. to h (same_or_other owner c), λ h. back h (same_or_other owner c))
  where
    here : slice_get (slice_set own owner row') owner ≡ Some row'
    here = set_here own owner row' (slice_get_within own owner row at)

    to : HasOwn (slice_set own owner row') c g → (owner ≡ c) ⊎ (owner ≡ c → ⊥) → HasOwn own c g ⊎ ((c ≡ owner) × (g ≡ f))
    to h (inr other) = inl (h.0, sym (set_there own owner c row' other) ∙ h.1, h.2)
    to h (inl same) =
        let is_row : h.0 ≡ row' = let found = h.1 in let set = ap (slice_get (slice_set own owner row')) (sym same) ∙ here in cc (found, set) in
        elim ((last_contained row f g).0 (subst (λ fs. Contains fs g) (is_row ∙ is) h.2)) [
          | inl old ↦ inl (row, ap (slice_get own) (sym same) ∙ at, old)
          | inr new ↦ inr (sym same, new)
        ]

    put : owner ≡ c → Contains (row ++ f ∷ []) g → HasOwn (slice_set own owner row') c g
    put same has = (row', ap (slice_get (slice_set own owner row')) (sym same) ∙ here, subst (λ fs. Contains fs g) (sym is) has)

    back : HasOwn own c g ⊎ ((c ≡ owner) × (g ≡ f)) → (owner ≡ c) ⊎ (owner ≡ c → ⊥) → HasOwn (slice_set own owner row') c g
    back (inr new) _ = put (sym new.0) ((last_contained row f g).1 (inr new.1))
    back (inl old) (inr other) = (old.0, set_there own owner c row' other ∙ old.1, old.2)
    back (inl old) (inl same) =
        let is_row : old.0 ≡ row = let found = old.1 in let was = ap (slice_get own) (sym same) ∙ at in cc (found, was) in
        put same ((last_contained row f g).1 (inl (subst (λ fs. Contains fs g) is_row old.2)))

pub none_own : (n : ℕ) (own : List (List ℕ)) → own ≡ replicate n [] → (c g : ℕ) → HasOwn own c g → ⊥
none_own n own is c g h = go n c (ap (λ xs. slice_get xs c) (sym is) ∙ h.1)
  where
    go : (n c : ℕ) → slice_get (replicate n []) c ≡ Some h.0 → ⊥
    go zero c e = absurd (cc e)
    go (suc n) zero e = let empty : [] ≡ h.0 = cc e in none_contained g (subst (λ fs. Contains fs g) (sym empty) h.2)
    go (suc n) (suc c) e = go n c e

-- the fields below f are listed, and f is one more
pub lists_next : (w : World) (own new : List (List ℕ)) (f : ℕ) (info : FieldInfo) → slice_get w.fields f ≡ Some info
    → ((c g : ℕ) → HasOwn own c g ↔ ((g < f) × Owns w c g)) → ((c g : ℕ) → HasOwn new c g ↔ (HasOwn own c g ⊎ ((c ≡ info.owner) × (g ≡ f))))
    → (c g : ℕ) → HasOwn new c g ↔ ((g < f + 1) × Owns w c g)
lists_next w own new f info at before more c g = (
  λ h. elim ((more c g).0 h) [
    | inl old ↦ let was = (before c g).0 old in (omega (arith, was.0), was.1)
    | inr is ↦ (omega (arith, is.1), (info, (ap (slice_get w.fields) is.1 ∙ at, sym is.0)))
  ],
  λ h. elim (same_or_other g f) [
    | inl is ↦
        let info_is : h.1.0 ≡ info = let found = h.1.1.0 in let here = ap (slice_get w.fields) is ∙ at in cc (found, here) in
        (more c g).1 (inr (sym h.1.1.1 ∙ ap (λ (i : FieldInfo). i.owner) info_is, is))
    | inr other ↦ (more c g).1 (inl ((before c g).1 (let lt : g < f = below (omega (arith, h.0)) other in lt, h.1)))
  ],
)
  where
    below : g ≤ f → (g ≡ f → ⊥) → g < f
    below le other = grind (arith, le, other)

pub all_listed : (w : World) (own : List (List ℕ)) (f : ℕ) → length w.fields ≤ f → length w.types ≤ length own → ((c g : ℕ) → HasOwn own c g ↔ ((g < f) × Owns w c g)) → ListsFields w own
all_listed w own f past size lists = record {
  size = size;
  lists = λ c g. (λ h. ((lists c g).0 h).1, λ h. (lists c g).1 (let lt = slice_get_within w.fields g h.0 h.1.0 in omega (arith, lt, past), h));
}

-- the list of a type
pub list_of : (w : World) (own : List (List ℕ)) (c : ℕ) (fs : List ℕ) → ListsFields w own → slice_get own c ≡ Some fs → (f : ℕ) → Contains fs f ↔ Owns w c f
list_of w own c fs h at f = (
  λ has. (h.lists c f).0 (fs, at, has),
  λ owns. let has = (h.lists c f).1 owns in let is : has.0 ≡ fs = let found = has.1 in cc (found, at) in subst (λ xs. Contains xs f) is has.2,
)

pub then_iff : {A B C : Type 0} → A ↔ B → B ↔ C → A ↔ C
then_iff first second = (λ a. second.0 (first.0 a), λ c. first.1 (second.1 c))

pub added_own : (old own : List (List ℕ)) (owner f : ℕ) (row row' : List ℕ) → slice_get own owner ≡ Some row → row' ≡ row ++ f ∷ [] → ((c g : ℕ) → HasOwn own c g ↔ HasOwn old c g)
    → (c g : ℕ) → HasOwn (slice_set own owner row') c g ↔ (HasOwn old c g ⊎ ((c ≡ owner) × (g ≡ f)))
added_own old own owner f row row' at is same c g = (
  λ h. elim ((own_more own owner f row row' at is c g).0 h) [ inl was ↦ inl ((same c g).0 was) | inr new ↦ inr new ],
  λ h. (own_more own owner f row row' at is c g).1 (elim h [ inl was ↦ inl ((same c g).1 was) | inr new ↦ inr new ]),
)
