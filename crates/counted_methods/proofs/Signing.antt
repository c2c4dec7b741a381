-- The signs of methods, as they are given.
use Rattle.std.proofs.Common.{◌≡◌, ℕ, ◌+◌, List, [], ◌∷◌, ◌++◌, Option, Some, None, inl, inr, sym, ap, ◌∙◌, subst, length, arith}
use Rattle.std.specs.Prelude.{slice_get}
use Rattle.std.specs.List.{Contains}
use Rattle.std.proofs.lemmas.List.{length_push}
use Rattle.std.proofs.lemmas.Option.{slice_get_within}
use Rattle.java_tree.specs.declared.tree.Name.{Name}
use Rattle.class_world.specs.declared.world.World.{World}
use Rattle.class_world.specs.declared.world.JavaType.{JavaType}
use Rattle.class_world.specs.Signatures.{HasParams, HaveOneName}
use Rattle.class_world.proofs.Ends.{first_or_end}
use Rattle.class_world.proofs.Substs.{there_is}
use Rattle.member_methods.proofs.Firsts.{at_contains}
use Rattle.seen_methods.specs.Seen.{TellsParams}
use Rattle.signature_numbers.specs.Steps.{Steps}
use Rattle.signature_numbers.specs.Numbers.{AreApart, number_in}
use Rattle.counted_methods.specs.Chosen.{AreSigns, HasSign, HaveName, IsSign}

-- what has a number keeps it
abbrev pub Keep : Steps → Steps → Type 0
Keep s t = (a : Name) (ps : List JavaType) (n : ℕ) → number_in s a ps ≡ Some n → number_in t a ps ≡ Some n

sign_kept : (w : World) (c : ℕ) (n : Name) (s t : Steps) (m : ℕ) (o : Option ℕ) → Keep s t → IsSign w c n s m o → IsSign w c n t m o
sign_kept w c n s t m None keep h = h
sign_kept w c n s t m (Some k) keep h = (h.0, h.1, h.2, keep n h.0 k h.3)

-- the first methods have their signs
pub record AreFirst (w : World) (c : ℕ) (n : Name) (t : Steps) (ms : List ℕ) (signs : List (Option ℕ)) (i : ℕ) : Type 0 where
  pub apart : AreApart t
  pub size : length signs ≡ i
  pub each : (j m : ℕ) (o : Option ℕ) → slice_get ms j ≡ Some m → slice_get signs j ≡ Some o → IsSign w c n t m o

pub first_next : (w : World) (c : ℕ) (n : Name) (s t : Steps) (ms : List ℕ) (signs new : List (Option ℕ)) (i m : ℕ) (o : Option ℕ) → AreFirst w c n s ms signs i → slice_get ms i ≡ Some m → Keep s t → AreApart t
    → IsSign w c n t m o → new ≡ signs ++ o ∷ [] → AreFirst w c n t ms new (i + 1)
first_next w c n s t ms signs new i m o before at keep apart is made = record {
  apart = apart;
  size = ap length made ∙ length_push signs o ∙ ap (λ k. k + 1) before.size;
  each = λ j k q at_k sign. elim (first_or_end signs o q j (ap (λ l. slice_get l j) (sym made) ∙ sign)) [
    | inl low ↦ sign_kept w c n s t k q keep (before.each j k q at_k low)
    | inr last ↦
        let same : m ≡ k = let both : Some m ≡ Some k = sym at ∙ ap (slice_get ms) (sym before.size ∙ sym last.1) ∙ at_k in cc both in
        subst (λ k. IsSign w c n t k q) same (subst (IsSign w c n t m) (sym last.0) is)
  ];
}

module _ (w : World) (c : ℕ) (n : Name) (t : Steps) (ms : List ℕ) (signs : List (Option ℕ)) (named : HaveName w n ms) (first : AreFirst w c n t ms signs (length ms)) where
  one_name : (m k : ℕ) → Contains ms m → Contains ms k → HaveOneName w m k
  one_name m k a b = let i = named m a in let j = named k b in (i.0, j.0, i.1, j.1, i.2 ∙ sym j.2)

  has_sign : (i m : ℕ) (ps : List JavaType) → slice_get ms i ≡ Some m → HasParams w c m ps → (k : ℕ) × HasSign signs i k × (number_in t n ps ≡ Some k)
  has_sign i m ps at has =
      let size = first.size in
      let lt = slice_get_within ms i m at in
      let o = there_is signs i (omega (arith, size, lt)) in
      go o.0 o.1 (first.each i m o.0 at o.1)
    where
      go : (o : Option ℕ) → slice_get signs i ≡ Some o → IsSign w c n t m o → (k : ℕ) × HasSign signs i k × (number_in t n ps ≡ Some k)
      go None sign is = absurd (is ps has)
      go (Some k) sign is = (k, sign, ap (number_in t n) (is.2 ps has) ∙ is.3)

  pub signs_told : AreSigns w c ms signs
  signs_told = record {
    size = first.size;
    told = λ i j m k at_i at_j. (
      λ one.
          let a = has_sign i m one.1.0 at_i one.1.1 in
          let b = has_sign j k one.1.0 at_j one.1.2 in
          let same : b.0 ≡ a.0 = let both : Some b.0 ≡ Some a.0 = sym b.2 ∙ a.2 in cc both in
          (a.0, a.1, b.1 ∙ ap (λ x. Some (Some x)) same),
      λ h.
          let a = first.each i m (Some h.0) at_i h.1 in
          let b = first.each j k (Some h.0) at_j h.2 in
          let same = (first.apart n n a.0 b.0 h.0 a.3 b.3).1 in
          (one_name m k (at_contains ms i m at_i) (at_contains ms j k at_j), (a.0, a.1, subst (HasParams w c k) (sym same) b.1)),
    );
  }

pub sign_told : (w : World) (c : ℕ) (n : Name) (t : Steps) (m k : ℕ) (ps : List JavaType) (o : Option (List JavaType)) → TellsParams w c m o → o ≡ Some ps → number_in t n ps ≡ Some k → IsSign w c n t m (Some k)
sign_told w c n t m k ps o told is number = let h = subst (TellsParams w c m) is told in (ps, h.0, h.1, number)
