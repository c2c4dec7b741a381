-- Loops over the methods of one name and number of parameters, and over all members.
use Rattle.std.proofs.Common.{◌≡◌, ℕ, zero, suc, ◌+◌, ◌<◌, ◌≤◌, ◌⊎◌, inl, inr, List, [], ◌∷◌, Some, slice_index_or, refl, sym, ap, ◌∙◌, subst, length, arith}
use Rattle.std.specs.Prelude.{slice_get}
use Rattle.std.specs.List.{Contains}
use Rattle.std.proofs.lemmas.Option.{slice_get_read}
use Rattle.java_tree.specs.declared.tree.Name.{Name}
use Rattle.class_world.specs.declared.world.World.{World}
use Rattle.class_world.specs.declared.world.MethodInfo.{MethodInfo}
use Rattle.class_world.specs.Signatures.{IsMethod}
use Rattle.class_world.specs.Inheritance.{IsMemberMethod}
use Rattle.member_methods.specs.Methods.{AreNamed}
use Rattle.inherited_rules.proofs.Members.{AreNamesakes}

-- none of the first i has the property
abbrev pub AreClear : (ℕ → Type 0) → List ℕ → ℕ → Type 0
AreClear P ms i = (j x : ℕ) → j < i → slice_get ms j ≡ Some x → P x → ⊥

pub item_at : (ms : List ℕ) (i : ℕ) → i < length ms → slice_get ms i ≡ Some (slice_index_or ms i 0)
item_at [] i lt = absurd (omega (arith, lt))
item_at (m ∷ ms) zero lt = refl
item_at (m ∷ ms) (suc i) lt = item_at ms i (omega (arith, lt))

pub has_item : (ms : List ℕ) (i : ℕ) → i < length ms → Contains ms (slice_index_or ms i 0)
has_item [] i lt = absurd (omega (arith, lt))
has_item (m ∷ ms) zero lt = (0, omega arith, refl)
has_item (m ∷ ms) (suc i) lt = let h = has_item ms i (omega (arith, lt)) in (suc h.0, omega (arith, h.1), h.2)

pub lower_or_last : (j i : ℕ) → j < i + 1 → (j < i) ⊎ (j ≡ i)
lower_or_last j i h = grind (arith, h)

-- nor has the next one
pub next_clear : (P : ℕ → Type 0) (ms : List ℕ) (i : ℕ) → AreClear P ms i → i < length ms → (P (slice_index_or ms i 0) → ⊥) → AreClear P ms (i + 1)
next_clear P ms i clear lt none j x low at has = elim (lower_or_last j i low) [
  | inl before ↦ clear j x before at has
  | inr last ↦
      let both : Some (slice_index_or ms i 0) ≡ Some x = sym (item_at ms i lt) ∙ ap (slice_get ms) (sym last) ∙ at in
      let same : x ≡ slice_index_or ms i 0 = cc both in
      none (subst P same has)
]

-- none of all
pub all_clear : (P : ℕ → Type 0) (ms : List ℕ) (i : ℕ) → AreClear P ms i → length ms ≤ i → (x : ℕ) → Contains ms x → P x → ⊥
all_clear P ms i clear le x has p = clear has.0 x (omega (arith, has.1, le)) (slice_get_read ms (length ms) has.0 x refl has.1 (sym has.2)) p

-- of one name and one number of parameters the list has each member
pub is_named : (w : World) (c m k arity : ℕ) (info : MethodInfo) (ms : List ℕ) → IsMethod w m info → arity ≡ length info.params → AreNamed w c info.name arity ms → IsMemberMethod w c k → AreNamesakes w k m
    → Contains ms k
is_named w c m k arity info ms is count named member both =
    let same : both.1 ≡ info = cc (both.3.0, is.0) in
    (named.0 k).1 (member, (both.0, both.2, both.4 ∙ ap (λ (i : MethodInfo). i.name) same, both.5 ∙ ap (λ (i : MethodInfo). length i.params) same ∙ sym count))

pub named_member : (w : World) (c k arity : ℕ) (n : Name) (ms : List ℕ) → AreNamed w c n arity ms → Contains ms k → IsMemberMethod w c k
named_member w c k arity n ms named has = ((named.0 k).0 has).0
