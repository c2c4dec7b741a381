-- What values say of sets of fields.
use Rattle.std.proofs.Common.{◌≡◌, ℕ, ◌+◌, zero, suc, Bool, true, false, ◌||◌, List, [], ◌∷◌, Option, Some, None, ◌⊎◌, inl, inr, ◌↔◌, refl, sym, ap, ◌∙◌, subst, arith, add-one}
use Rattle.std.specs.Prelude.{slice_get, Contains, ◌==◌, if◌then◌else◌}
use Rattle.std.specs.List.{fold, list_any}
use Rattle.std.proofs.lemmas.Bool.{cases_Bool, eqb-true, eq-eqb}
use Rattle.java_tree.specs.declared.tree.Name.{Name}
use Rattle.java_tree.specs.declared.tree.Mod.{Mod}
use Rattle.java_tree.specs.declared.tree.Mod.TheVariants as mods
use Rattle.class_world.specs.declared.world.World.{World}
use Rattle.class_world.specs.declared.world.FieldInfo.{FieldInfo}
use Rattle.class_world.specs.declared.world.JavaType.{JavaType}
use Rattle.class_world.specs.Inheritance.{FieldIs, IsFieldNamed}
use Rattle.class_world.proofs.Words.{same_or_other}
use Rattle.member_fields.specs.Fields.{field_of}
use Rattle.member_fields.specs.Values.{joined, without, without_at, with_one, with_at, is_private_mod}
use Rattle.member_fields.specs.Sums.{IsNamed, IsPrivate, Summarizes}
use Rattle.member_fields.proofs.Lists.{contains_at, at_contains, front_cases, contains_first, contains_later, none_contained}

pub same_sums : {P Q : ℕ → Type 0} (v : Option ℕ) → ((f : ℕ) → P f ↔ Q f) → Summarizes P v → Summarizes Q v
same_sums None same h = λ f q. h f ((same f).1 q)
same_sums (Some zero) same h = (h.0, h.1, (same h.0).0 h.2, (same h.1).0 h.3, h.4)
same_sums (Some (suc f)) same h = ((same f).0 h.0, λ g q. h.1 g ((same g).1 q))

module _ (P Q : ℕ → Type 0) where
  -- two values that are the same
  both_same : (x y : ℕ) → x ≡ y → Summarizes P (Some x) → Summarizes Q (Some y) → Summarizes (λ f. P f ⊎ Q f) (Some x)
  both_same zero y e h k = (h.0, h.1, inl h.2, inl h.3, h.4)
  both_same (suc f) zero e h k = absurd (cc e)
  both_same (suc f) (suc g) e h k =
      let one : g ≡ f = omega (arith, e) in
      (inl h.0, λ a either. elim either [ inl p ↦ h.1 a p | inr q ↦ k.1 a q ∙ one ])

  -- two values that differ
  several : (x y : ℕ) → (x ≡ y → ⊥) → Summarizes P (Some x) → Summarizes Q (Some y) → Summarizes (λ f. P f ⊎ Q f) (Some 0)
  several zero y other h k = (h.0, h.1, inl h.2, inl h.3, h.4)
  several (suc f) zero other h k = (k.0, k.1, inr k.2, inr k.3, k.4)
  several (suc f) (suc g) other h k = (f, g, inl h.0, inr k.0, λ e. other (ap suc e))

  pub joined_sums : (a b : Option ℕ) → Summarizes P a → Summarizes Q b → Summarizes (λ f. P f ⊎ Q f) (joined a b)
  joined_sums None b h k = same_sums b (λ f. (λ q. inr q, λ e. elim e [ inl p ↦ absurd (h f p) | inr q ↦ q ])) k
  joined_sums (Some x) None h k = same_sums (Some x) (λ f. (λ p. inl p, λ e. elim e [ inl p ↦ p | inr q ↦ absurd (k f q) ])) h
  joined_sums (Some x) (Some y) h k = split (x == y) refl
    where
      split : (b : Bool) → (x == y) ≡ b → Summarizes (λ f. P f ⊎ Q f) (if b then Some x else Some 0)
      split true e = both_same x y (eqb-true x y e) h k
      split false e = several x y (λ same. let yes : true ≡ false = sym (eq-eqb x y same) ∙ e in absurd (cc yes)) h k

-- what a name means
pub field_is : (w : World) (t : JavaType) (n : Name) (v : Option ℕ) → Summarizes (IsFieldNamed w t n) v → FieldIs w t n (field_of v)
field_is w t n None h = λ f named. absurd (h f named)
field_is w t n (Some zero) h = λ f named. elim (same_or_other f h.0) [
  | inl is ↦ (h.1, h.3, λ e. h.4 (sym is ∙ sym e))
  | inr other ↦ (h.0, h.2, λ e. other (sym e))
]
field_is w t n (Some (suc f)) h = h

-- ---- names taken out

abbrev pub IsKeptBut : World → ℕ → (ℕ → Type 0) → List ℕ → ℕ → Type 0
IsKeptBut w n P xs f = P f × ((k : ℕ) → Contains xs k → IsNamed w n k → ⊥)

one_without : (w : World) (n x : ℕ) (P : ℕ → Type 0) (v : Option ℕ) → Summarizes P v → Summarizes (λ f. P f × (IsNamed w n x → ⊥)) (without_at w n v x)
one_without w n x P v h = split (slice_get w.fields x) refl
  where
    left : (IsNamed w n x → ⊥) → Summarizes (λ f. P f × (IsNamed w n x → ⊥)) v
    left none = same_sums v (λ f. (λ p. (p, none), λ q. q.0)) h

    split : (o : Option FieldInfo) → slice_get w.fields x ≡ o → Summarizes (λ f. P f × (IsNamed w n x → ⊥)) (without n v o)
    split None is = left (λ named. let at = named.1 in absurd (cc (is, at)))
    split (Some info) is = by (n == info.name.0) refl
      where
        by : (b : Bool) → (n == info.name.0) ≡ b → Summarizes (λ f. P f × (IsNamed w n x → ⊥)) (if b then None else v)
        by true e = λ f p. absurd (p.1 (info, is, sym (eqb-true n info.name.0 e)))
        by false e = left (λ named.
            let info_is : named.0 ≡ info = let at = named.1 in cc (is, at) in
            let name_is : n ≡ info.name.0 = sym named.2 ∙ ap (λ (i : FieldInfo). i.name.0) info_is in
            let yes : true ≡ false = sym (eq-eqb n info.name.0 name_is) ∙ e in absurd (cc yes))

pub without_sums : (w : World) (n : ℕ) (xs : List ℕ) (P : ℕ → Type 0) (v : Option ℕ) → Summarizes P v → Summarizes (IsKeptBut w n P xs) (fold (without_at w n) v xs)
without_sums w n [] P v h = same_sums v (λ f. (λ p. (p, λ k has. absurd (none_contained k has)), λ q. q.0)) h
without_sums w n (x ∷ xs) P v h =
    same_sums (fold (without_at w n) (without_at w n v x) xs) (λ f. (
      λ q. (q.0.0, λ k has named. elim (front_cases x xs k has) [ inl is ↦ q.0.1 (subst (IsNamed w n) is named) | inr later ↦ q.1 k later named ]),
      λ q. ((q.0, q.1 x (contains_first x xs)), λ k has. q.1 k (contains_later x xs k has)),
    )) (without_sums w n xs (λ f. P f × (IsNamed w n x → ⊥)) (without_at w n v x) (one_without w n x P v h))

-- ---- fields put in

abbrev pub IsTaken : World → Bool → ℕ → Type 0
IsTaken w true f = Unit {0}
IsTaken w false f = IsPrivate w f → ⊥

abbrev pub IsPut : World → Bool → ℕ → ℕ → Type 0
IsPut w private_too n f = IsNamed w n f × IsTaken w private_too f

abbrev pub IsAlso : World → Bool → ℕ → (ℕ → Type 0) → List ℕ → ℕ → Type 0
IsAlso w private_too n P xs f = P f ⊎ (Contains xs f × IsPut w private_too n f)

private_is : (m : Mod) → is_private_mod m ≡ true → m ≡ mods.Private
private_is mods.Private e = refl
private_is m e = absurd (cc e)

any_at : {A : Type 0} (p : A → Bool) (xs : List A) (i : ℕ) (x : A) → slice_get xs i ≡ Some x → p x ≡ true → list_any p xs ≡ true
any_at p [] i x e h = absurd (cc e)
any_at p (y ∷ xs) zero x e h = let same : y ≡ x = cc e in ap (λ b. b || list_any p xs) (ap p same ∙ h)
any_at p (y ∷ xs) (suc i) x e h = ap (λ b. p y || b) (any_at p xs i x e h) ∙ or_yes (p y)
  where
    or_yes : (b : Bool) → (b || true) ≡ true
    or_yes true = refl
    or_yes false = refl

any_from : {A : Type 0} (p : A → Bool) (xs : List A) → list_any p xs ≡ true → (i : ℕ) × (x : A) × (slice_get xs i ≡ Some x) × (p x ≡ true)
any_from p [] e = absurd (cc e)
any_from p (y ∷ xs) e = elim (cases_Bool (p y)) [
  | inl hit ↦ (0, y, refl, hit)
  | inr miss ↦ let later = any_from p xs (sym (ap (λ b. b || list_any p xs) miss) ∙ e) in (suc later.0, later.1, later.2, later.3)
]

abbrev Now : World → (n x : ℕ) → (ℕ → Type 0) → Bool → ℕ → Type 0
Now w n x P too f = P f ⊎ ((f ≡ x) × IsPut w too n x)

one_put : (w : World) (private_too : Bool) (n x : ℕ) (P : ℕ → Type 0) (v : Option ℕ) → Summarizes P v → Summarizes (λ f. P f ⊎ ((f ≡ x) × IsPut w private_too n x)) (with_at w private_too n v x)
one_put w private_too n x P v h = split private_too (slice_get w.fields x) refl
  where
    same : (too : Bool) → (IsPut w too n x → ⊥) → Summarizes (Now w n x P too) v
    same too none = same_sums v (λ f. (λ p. inl p, λ e. elim e [ inl p ↦ p | inr q ↦ absurd (none q.1) ])) h

    more : (too : Bool) → IsPut w too n x → Summarizes (Now w n x P too) (joined v (Some (x + 1)))
    more too put =
        subst (λ y. Summarizes (Now w n x P too) (joined v (Some y))) (sym (add-one x))
        (joined_sums P (λ f. (f ≡ x) × IsPut w too n x) v (Some (suc x)) h ((refl, put), λ g is. is.0))

    tested : (too : Bool) (info : FieldInfo) → slice_get w.fields x ≡ Some info → IsTaken w too x → (b : Bool) → (n == info.name.0) ≡ b → Summarizes (Now w n x P too) (if b then joined v (Some (x + 1)) else v)
    tested too info is taken true e = more too ((info, is, sym (eqb-true n info.name.0 e)), taken)
    tested too info is taken false e = same too (λ put.
        let named = put.0 in
        let info_is : named.0 ≡ info = let at = named.1 in cc (is, at) in
        let name_is : n ≡ info.name.0 = sym named.2 ∙ ap (λ (i : FieldInfo). i.name.0) info_is in
        let yes : true ≡ false = sym (eq-eqb n info.name.0 name_is) ∙ e in absurd (cc yes))

    split : (too : Bool) (o : Option FieldInfo) → slice_get w.fields x ≡ o → Summarizes (Now w n x P too) (with_one too n v x o)
    split too None is = same too (λ put. let at = put.0.1 in absurd (cc (is, at)))
    split true (Some info) is = tested true info is tt (n == info.name.0) refl
    split false (Some info) is = by (list_any is_private_mod info.mods) refl
      where
        by : (b : Bool) → list_any is_private_mod info.mods ≡ b → Summarizes (Now w n x P false) (if b then v else if n == info.name.0 then joined v (Some (x + 1)) else v)
        by true e =
            let found = any_from is_private_mod info.mods e in
            same false (λ put. put.1 (info, is, at_contains info.mods found.0 mods.Private (found.2 ∙ ap Some (private_is found.1 found.3))))
        by false e = tested false info is not_private (n == info.name.0) refl
          where
            not_private : IsPrivate w x → ⊥
            not_private is_private =
                let info_is : is_private.0 ≡ info = let at = is_private.1 in cc (is, at) in
                let at = contains_at info.mods mods.Private (subst (λ (i : FieldInfo). Contains i.mods mods.Private) info_is is_private.2) in
                let yes : true ≡ false = sym (any_at is_private_mod info.mods at.0 mods.Private at.1 refl) ∙ e in
                absurd (cc yes)

pub with_sums : (w : World) (private_too : Bool) (n : ℕ) (xs : List ℕ) (P : ℕ → Type 0) (v : Option ℕ) → Summarizes P v → Summarizes (IsAlso w private_too n P xs) (fold (with_at w private_too n) v xs)
with_sums w too n [] P v h = same_sums v (λ f. (λ p. inl p, λ e. elim e [ inl p ↦ p | inr q ↦ absurd (none_contained f q.0) ])) h
with_sums w too n (x ∷ xs) P v h =
    same_sums (fold (with_at w too n) (with_at w too n v x) xs) (λ f. (
      λ e. elim e [
        | inl (inl p) ↦ inl p
        | inl (inr q) ↦ inr (subst (Contains (x ∷ xs)) (sym q.0) (contains_first x xs), subst (IsPut w too n) (sym q.0) q.1)
        | inr q ↦ inr (contains_later x xs f q.0, q.1)
      ],
      λ e. elim e [
        | inl p ↦ inl (inl p)
        | inr q ↦ elim (front_cases x xs f q.0) [ inl is ↦ inl (inr (is, subst (IsPut w too n) is q.1)) | inr later ↦ inr (later, q.1) ]
      ],
    )) (with_sums w too n xs (λ f. P f ⊎ ((f ≡ x) × IsPut w too n x)) (with_at w too n v x) (one_put w too n x P v h))
