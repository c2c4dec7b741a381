-- Methods in the lists of their signatures' numbers.
use Rattle.std.proofs.Common.{◌≡◌, ℕ, ◌<◌, nat_eq, arith, List, [], ◌∷◌, ◌++◌, Option, Some, None, ◌⊎◌, inl, inr, ◌↔◌, refl, sym, ap, ◌∙◌, subst}
use Rattle.std.specs.Prelude.{unwrap_or}
use Rattle.std.specs.List.{Contains}
use Rattle.std.specs.HashMap.{get}
use Rattle.std.proofs.lemmas.List.Elements.{Contains-append_left, Contains-push, Contains-push_cases}
use Rattle.java_tree.specs.declared.tree.Name.{Name}
use Rattle.class_world.specs.declared.world.World.{World}
use Rattle.class_world.specs.declared.world.MethodInfo.{MethodInfo}
use Rattle.class_world.specs.declared.world.JavaType.{JavaType}
use Rattle.class_world.specs.Signatures.{HasParams, HaveOneSignatureIn, IsMethod}
use Rattle.seen_methods.specs.Seen.{TellsParams}
use Rattle.signature_numbers.specs.Numbers.{AreApart, number_in}
use Rattle.numbered_methods.specs.declared.NumberedMethods.{NumberedMethods}
use Rattle.numbered_methods.specs.Added.{AreListed, HasNumber, IsAdded, IsNumberOf, IsOnce, listed_by, listed_in}
use Rattle.numbered_methods.specs.Alike.{AreAlike, IsNumbered}
use Rattle.numbered_methods.proofs.Firsts.{none_in, once_none, once_push}

module _ (w : World) where
  pub listed_none : (P : ℕ → Type 0) (t : NumberedMethods) → ((n : ℕ) → get nat_eq t.lists n ≡ None) → ((a : Name) (ps : List JavaType) → number_in t.numbers a ps ≡ None) → ((k : ℕ) → P k → ⊥) → AreListed w P t
  listed_none P t none unnumbered empty = record {
    apart = λ a b ps qs n at there. let never : None ≡ Some n = sym (unnumbered a ps) ∙ at in absurd (cc never);
    right = λ n k h. let no = none_in (listed_in t n) k (nothing n) h in absurd no;
    once = λ n. once_none (listed_in t n) (nothing n);
    all = λ k info ps p. absurd (empty k p);
  }
    where
      nothing : (n : ℕ) → listed_in t n ≡ []
      nothing n = ap (λ o. unwrap_or o []) (none n)

  pub listed_same : (P Q : ℕ → Type 0) (t : NumberedMethods) → ((k : ℕ) → P k ↔ Q k) → AreListed w P t → AreListed w Q t
  listed_same P Q t same is = record {
    apart = is.apart;
    right = λ n k h. let r = is.right n k h in ((same k).0 r.0, r.1);
    once = is.once;
    all = λ k info ps q method has. is.all k info ps ((same k).1 q) method has;
  }

  pub listed_next : (P Q : ℕ → Type 0) (m : ℕ) (old new : NumberedMethods) → AreListed w P old → IsAdded w m old new → (P m → ⊥) → ((k : ℕ) → Q k ↔ (P k ⊎ (k ≡ m))) → AreListed w Q new
  listed_next P Q m old new is added fresh both = record { apart = added.apart; right = right; once = once; all = all }
    where
      moved : (k n : ℕ) → HasNumber w old.class new.numbers k n → HasNumber w new.class new.numbers k n
      moved k n h = subst (λ c. HasNumber w c new.numbers k n) (sym added.class) h

      stays : (k n : ℕ) → HasNumber w old.class old.numbers k n → HasNumber w new.class new.numbers k n
      stays k n h = moved k n (h.0, h.1, h.2, h.3, added.kept h.0.name h.2 n h.4)

      was : (n k : ℕ) → Contains (listed_in old n) k → Q k × HasNumber w new.class new.numbers k n
      was n k h = let r = is.right n k h in ((both k).1 (inl r.0), stays k n r.1)

      right : (n k : ℕ) → Contains (listed_in new n) k → Q k × HasNumber w new.class new.numbers k n
      right n k h = elim (added.lists n) [
        | inl same ↦ was n k (subst (λ l. Contains l k) same h)
        | inr more ↦ elim (Contains-push_cases (listed_in old n) m k (subst (λ l. Contains l k) more.0 h)) [
          | inl low ↦ was n k low
          | inr last ↦ ((both k).1 (inr (sym last)), moved k n (subst (λ k. HasNumber w old.class new.numbers k n) last more.1))
        ]
      ]

      once : (n : ℕ) → IsOnce (listed_in new n)
      once n = elim (added.lists n) [
        | inl same ↦ subst IsOnce (sym same) (is.once n)
        | inr more ↦ once_push (listed_in old n) (listed_in new n) m (is.once n) (λ h. fresh (is.right n m h).0) more.0
      ]

      has : (n k : ℕ) → Contains (listed_in old n) k → Contains (listed_in new n) k
      has n k h = elim (added.lists n) [
        | inl same ↦ subst (λ l. Contains l k) (sym same) h
        | inr more ↦ subst (λ l. Contains l k) (sym more.0) (Contains-append_left (listed_in old n) (m ∷ []) k h)
      ]

      all : (k : ℕ) (info : MethodInfo) (ps : List JavaType) → Q k → IsMethod w k info → HasParams w new.class k ps → (n : ℕ) × (number_in new.numbers info.name ps ≡ Some n) × Contains (listed_in new n) k
      all k info ps q method seen =
          let before = subst (λ c. HasParams w c k ps) added.class seen in
          elim ((both k).0 q) [
            | inl p ↦ let a = is.all k info ps p method before in (a.0, added.kept info.name ps a.0 a.1, has a.0 k a.2)
            | inr last ↦
                let a = added.told info ps (subst (λ k. IsMethod w k info) last method) (subst (λ k. HasParams w old.class k ps) last before) in
                (a.0, a.1, subst (Contains (listed_in new a.0)) (sym last) a.2)
          ]

  pub added_none : (m : ℕ) (t : NumberedMethods) → AreApart t.numbers → ((info : MethodInfo) (ps : List JavaType) → IsMethod w m info → HasParams w t.class m ps → ⊥) → IsAdded w m t t
  added_none m t apart none = record {
    class = refl;
    apart = apart;
    kept = λ a ps n e. e;
    told = λ info ps method has. absurd (none info ps method has);
    lists = λ n. inl refl;
  }

  pub added_told : (m number : ℕ) (info : MethodInfo) (ps : List JavaType) (old new : NumberedMethods) → IsMethod w m info → TellsParams w old.class m (Some ps) → new.class ≡ old.class → AreApart new.numbers
      → ((a : Name) (ps : List JavaType) (n : ℕ) → number_in old.numbers a ps ≡ Some n → number_in new.numbers a ps ≡ Some n) → number_in new.numbers info.name ps ≡ Some number
      → listed_in new number ≡ listed_in old number ++ m ∷ [] → ((n : ℕ) → (n ≡ number → ⊥) → listed_in new n ≡ listed_in old n) → IsAdded w m old new
  added_told m number info ps old new is told class apart kept numbered here others = record {
    class = class;
    apart = apart;
    kept = kept;
    told = λ j qs method has.
        let same : j ≡ info = cc (method.0, is.0) in (
          number,
          ap (λ (i : MethodInfo). number_in new.numbers i.name qs) same ∙ ap (number_in new.numbers info.name) (told.1 qs has) ∙ numbered,
          subst (λ l. Contains l m) (sym here) (Contains-push (listed_in old number) m),
        );
    lists = λ n. elim (same_or_not n number) [
      | inl same ↦ inr (
        subst (λ n. listed_in new n ≡ listed_in old n ++ m ∷ []) (sym same) here,
        (info, is, ps, told.0, numbered ∙ ap Some (sym same)),
      )
      | inr other ↦ inl (others n other)
    ];
  }
    where
      three : (n k : ℕ) → (n < k) ⊎ ((n ≡ k) ⊎ (k < n))
      three n k = grind arith

      same_or_not : (n k : ℕ) → (n ≡ k) ⊎ (n ≡ k → ⊥)
      same_or_not n k = elim (three n k) [
        | inl less ↦ inr (λ same. absurd (omega (arith, less, same)))
        | inr other ↦ elim other [ inl same ↦ inl same | inr more ↦ inr (λ same. absurd (omega (arith, more, same))) ]
      ]

  pub unseen : (c m : ℕ) (o : Option (List JavaType)) (ps : List JavaType) → TellsParams w c m o → ((qs : List JavaType) → o ≡ Some qs → ⊥) → HasParams w c m ps → ⊥
  unseen c m None ps told not has = told ps has
  unseen c m (Some qs) ps told not has = not qs refl

  -- ---- the number of a method

  pub number_none : (m : ℕ) (t : NumberedMethods) → ((info : MethodInfo) (ps : List JavaType) → IsMethod w m info → HasParams w t.class m ps → ⊥) → IsNumberOf w m t None
  number_none m t none = (λ info ps method has. absurd (none info ps method has), λ n e. absurd (cc e))

  pub number_told : (m : ℕ) (info : MethodInfo) (ps : List JavaType) (t : NumberedMethods) (o : Option ℕ) → IsMethod w m info → TellsParams w t.class m (Some ps) → o ≡ number_in t.numbers info.name ps → IsNumberOf w m t o
  number_told m info ps t o is told found = (
    λ j qs method has.
        let same : info ≡ j = cc (is.0, method.0) in
        found ∙ ap (λ (i : MethodInfo). number_in t.numbers i.name ps) same ∙ ap (number_in t.numbers j.name) (sym (told.1 qs has)),
    λ n e. (info, is, ps, told.0, sym found ∙ e),
  )

  -- what one look-up finds
  pub alike_told : (c m : ℕ) (ms xs : List ℕ) (t : NumberedMethods) (o : Option ℕ) → IsNumbered w c ms t → IsNumberOf w m t o → xs ≡ listed_by t o → AreAlike w c m ms xs
  alike_told c m ms xs t o is number made = subst (λ c. AreAlike w c m ms xs) is.0 (subst (AreAlike w t.class m ms) (sym made) (go o number))
    where
      listed : AreListed w (Contains ms) t
      listed = is.1

      number_of : (k : ℕ) → Contains ms k → (one : HaveOneSignatureIn w t.class m k) → (n : ℕ) × (number_in t.numbers one.0.0.name one.1.0 ≡ Some n) × Contains (listed_in t n) k
      number_of k there one =
          let a = listed.all k one.0.1 one.1.0 there one.0.3 one.1.2 in
          (a.0, ap (λ a. number_in t.numbers a one.1.0) one.0.4 ∙ a.1, a.2)

      go : (o : Option ℕ) → IsNumberOf w m t o → AreAlike w t.class m ms (listed_by t o)
      go None number = (
        λ k. (
          λ h. let no = none_in [] k refl h in absurd no,
          λ h.
              let a = number_of k h.0 h.1 in
              let never : None ≡ Some a.0 = number.0 h.1.0.0 h.1.1.0 h.1.0.2 h.1.1.1 ∙ a.1 in
              absurd (cc never),
        ),
        once_none [] refl,
      )
      go (Some n) number = (
        λ k. (
          λ h.
              let r = listed.right n k h in
              let own = number.1 n refl in
              let same = listed.apart own.0.name r.1.0.name own.2 r.1.2 n own.4 r.1.4 in
              (r.0, ((own.0, r.1.0, own.1, r.1.1, same.0), (own.2, own.3, subst (HasParams w t.class k) (sym same.1) r.1.3))),
          λ h.
              let a = number_of k h.0 h.1 in
              let both : Some n ≡ Some a.0 = number.0 h.1.0.0 h.1.1.0 h.1.0.2 h.1.1.1 ∙ a.1 in
              let same : n ≡ a.0 = cc both in
              subst (λ n. Contains (listed_in t n) k) (sym same) a.2,
        ),
        listed.once n,
      )
