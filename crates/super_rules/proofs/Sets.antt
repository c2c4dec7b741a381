-- What declarations break, one by one.
use Rattle.std.proofs.Common.{◌≡◌, ℕ, ◌+◌, ◌<◌, ◌≤◌, ◌≢◌, Bool, true, false, not, ◌&&◌, List, [], Option, Some, None, map, length, ◌⊎◌, inl, inr, ◌↔◌, refl, sym, ap, ◌∙◌, subst, arith}
use Rattle.std.specs.Prelude.{slice_get, IsTrue, Decides}
use Rattle.std.proofs.lemmas.Option.{slice_get_within}
use Rattle.java_tree.specs.Plain.{TypeDecl}
use Rattle.java_tree.specs.View.{decl_plain, member_plain}
use Rattle.class_world.specs.declared.world.TypeInfo.{TypeInfo}
use Rattle.rule_order.specs.declared.Breach.{Breach}
use Rattle.rule_order.specs.First.{Breaches, Either, IsFirst}
use Rattle.rule_order.specs.Noted.{At, SomeOf, Adds, noted}
use Rattle.rule_order.proofs.Adding.{adds_nothing, adds_both, adds_alike, adds_noted, first_from_none}
use Rattle.type_names.specs.declared.known.JavaNames.{JavaNames}
use Rattle.type_names.specs.Known.{File}
use Rattle.type_reach.proofs.Lists.{contains_at, at_contains}
use Rattle.written_types.specs.Places.{Place}
use Rattle.type_headers.specs.Declared.{Declaration, declarations, place_of, written_supers}
use Rattle.super_rules.specs.declared.entries.Entry.{Entry}
use Rattle.super_rules.specs.Rules.{Declares, WritesSuper, IsAbove, IsGenericAbove, IsThrowable, GenericSuperBreaches, ThrowsBreaches, SuperBreaches}
use Rattle.super_rules.specs.Looks.{IsEntry, AreFlags, NamesOneOf, TypeBreaches, Below}

pub below_none : {A : Type 0} (xs : List A) (F : ℕ → A → Breaches) (a : Option Breach) → Adds (Below 0 xs F) a a
below_none xs F a = adds_nothing (Below 0 xs F) a (λ b h. omega (arith, h.2))

pub below_more : {A : Type 0} (n : ℕ) (xs : List A) (F : ℕ → A → Breaches) (x : A) (a m r : Option Breach) → slice_get xs n ≡ Some x → Adds (Below n xs F) a m → Adds (F n x) m r
    → Adds (Below (n + 1) xs F) a r
below_more {A} n xs F x a m r at so_far one = adds_alike (Either (Below n xs F) (F n x)) (Below (n + 1) xs F) a r (λ b. (to b, from b)) (adds_both (Below n xs F) (F n x) a m r so_far one)
  where
    to : (b : Breach) → Either (Below n xs F) (F n x) b → Below (n + 1) xs F b
    to b (inl h) = (h.0, h.1, (let lt = h.2 in omega (arith, lt)), h.3, h.4)
    to b (inr h) = (n, x, omega arith, at, h)

    low_or_last : (k : ℕ) → k < n + 1 → (k < n) ⊎ (k ≡ n)
    low_or_last k lt = grind (arith, lt)

    from : (b : Breach) → Below (n + 1) xs F b → Either (Below n xs F) (F n x) b
    from b (k, y, lt, is, h) = elim (low_or_last k lt) [
      | inl low ↦ inl (k, y, low, is, h)
      | inr last ↦
          let same : y ≡ x = cc (is, ap (slice_get xs) last, at) in
          inr (subst (λ (z : A). F n z b) same (subst (λ k. F k y b) last h))
    ]

-- ---- S11

abbrev pub GenericAt : JavaNames → List File → List TypeInfo → ℕ → Declaration → Breaches
GenericAt j fs types k x = At 11 x.decl.node ((x.file.user ≡ true) × ((g : ℕ) × WritesSuper j fs types (19 + k) g × IsGenericAbove j fs types g))

pub generic_first : (j : JavaNames) (fs : List File) (types : List TypeInfo) (n : ℕ) (r : Option Breach) → length (declarations fs) ≤ n → Adds (Below n (declarations fs) (GenericAt j fs types)) None r
    → IsFirst (GenericSuperBreaches j fs types) r
generic_first j fs types n r all adds =
    first_from_none (GenericSuperBreaches j fs types) r (adds_alike (Below n (declarations fs) (GenericAt j fs types)) (GenericSuperBreaches j fs types) None r (λ b. (to b, from b)) adds)
  where
    to : (b : Breach) → Below n (declarations fs) (GenericAt j fs types) b → GenericSuperBreaches j fs types b
    to b (k, x, lt, at, h) = (19 + k, x, (k, refl, at), h)

    from : (b : Breach) → GenericSuperBreaches j fs types b → Below n (declarations fs) (GenericAt j fs types) b
    from b (c, x, (k, is, at), h) =
        let lt = slice_get_within (declarations fs) k x at in
        (k, x, omega (arith, lt, all), at, subst (λ c. At 11 x.decl.node ((x.file.user ≡ true) × ((g : ℕ) × WritesSuper j fs types c g × IsGenericAbove j fs types g)) b) is h)

-- one more declaration
module _ (j : JavaNames) (fs : List File) (types : List TypeInfo) (k : ℕ) (e : Entry) (x : Declaration) (at : slice_get (declarations fs) k ≡ Some x) (is : IsEntry j fs types e x) where
  generic_decides : (flags : List Bool) (holds : Bool) → AreFlags flags (IsGenericAbove j fs types)
      → IsTrue holds ↔ ((e.user ≡ true) × ((g : ℕ) × NamesOneOf (place_of j fs types x) (written_supers (decl_plain e.decl.now)) g × (slice_get flags g ≡ Some true)))
      → Decides holds ((x.file.user ≡ true) × ((g : ℕ) × WritesSuper j fs types (19 + k) g × IsGenericAbove j fs types g))
  generic_decides flags holds set says = (to, from)
    where
      p : Place
      p = place_of j fs types x

      to : holds ≡ true → (x.file.user ≡ true) × ((g : ℕ) × WritesSuper j fs types (19 + k) g × IsGenericAbove j fs types g)
      to holds_is =
          let found = says.0 holds_is in
          let s : NamesOneOf p (written_supers x.decl) found.1.0 = subst (λ (d : TypeDecl). NamesOneOf p (written_supers d) found.1.0) is.decl found.1.1 in
          (sym is.user ∙ found.0, (found.1.0, (x, (k, refl, at), s.0, s.1, s.2), (set found.1.0).0 found.1.2))

      the_one : (y : Declaration) → Declares fs (19 + k) y → y ≡ x
      the_one y h =
          let number : h.0 ≡ k = (let e = h.1 in omega (arith, e)) in
          cc (h.2, ap (slice_get (declarations fs)) number, at)

      from : (x.file.user ≡ true) × ((g : ℕ) × WritesSuper j fs types (19 + k) g × IsGenericAbove j fs types g) → holds ≡ true
      from (user, (g, (y, declares, s, has, names), above)) =
          let there : NamesOneOf p (written_supers x.decl) g =
          subst (λ (y : Declaration). NamesOneOf (place_of j fs types y) (written_supers y.decl) g) (the_one y declares) (s, has, names) in
          says.1 (is.user ∙ user, (g, subst (λ (d : TypeDecl). NamesOneOf p (written_supers d) g) (sym is.decl) there, (set g).1 above))

  pub generic_next : (flags : List Bool) (holds : Bool) (m r : Option Breach) → AreFlags flags (IsGenericAbove j fs types)
      → IsTrue holds ↔ ((e.user ≡ true) × ((g : ℕ) × NamesOneOf (place_of j fs types x) (written_supers (decl_plain e.decl.now)) g × (slice_get flags g ≡ Some true)))
      → r ≡ noted m 11 e.decl.now.node holds → Adds (Below k (declarations fs) (GenericAt j fs types)) None m → Adds (Below (k + 1) (declarations fs) (GenericAt j fs types)) None r
  generic_next flags holds m r set says noted_is so_far =
      let P = (x.file.user ≡ true) × ((g : ℕ) × WritesSuper j fs types (19 + k) g × IsGenericAbove j fs types g) in
      let node : e.decl.now.node ≡ x.decl.node = ap (λ (d : TypeDecl). d.node) is.decl in
      below_more k (declarations fs) (GenericAt j fs types) x None m r at so_far
      (subst (Adds (At 11 x.decl.node P) m) (sym (noted_is ∙ ap (λ n. noted m 11 n holds) node)) (adds_noted 11 x.decl.node P holds m (generic_decides flags holds set says)))

-- ---- DR2, DR3, DR12

abbrev pub SuperAt : JavaNames → List File → List TypeInfo → ℕ → Declaration → Breaches
SuperAt j fs types k x = TypeBreaches j fs types (19 + k) x

-- the rules at one declaration
pub type_adds : (j : JavaNames) (fs : List File) (types : List TypeInfo) (c : ℕ) (e : Entry) (x : Declaration) (itself bare throwable : Bool) (a m n r : Option Breach) → IsEntry j fs types e x
    → Adds (SomeOf (map member_plain e.decl.now.members) (ThrowsBreaches j fs types x)) a m → IsTrue itself ↔ IsAbove j fs types c c → n ≡ noted m 3 e.decl.now.node itself
    → IsTrue bare ↔ (e.decl.now.params ≡ []) → IsTrue throwable ↔ IsThrowable j fs types c → r ≡ noted n 12 e.decl.now.node (not bare && throwable) → Adds (TypeBreaches j fs types c x) a r
type_adds j fs types c e x itself bare throwable a m n r is throws above first none thrown second =
    let node : e.decl.now.node ≡ x.decl.node = ap (λ (d : TypeDecl). d.node) is.decl in
    let Generic = (x.decl.params ≢ []) × IsThrowable j fs types c in
    let Throws = SomeOf x.decl.members (ThrowsBreaches j fs types x) in
    let Itself = At 3 x.decl.node (IsAbove j fs types c c) in
    let GenericAt = At 12 x.decl.node Generic in
    let one : Adds Throws a m = subst (λ (d : TypeDecl). Adds (SomeOf d.members (ThrowsBreaches j fs types x)) a m) is.decl throws in
    let two : Adds Itself m n = subst (Adds Itself m) (sym (first ∙ ap (λ k. noted m 3 k itself) node)) (adds_noted 3 x.decl.node (IsAbove j fs types c c) itself m above) in
    let three : Adds GenericAt n r = subst (Adds GenericAt n) (sym (second ∙ ap (λ k. noted n 12 k (not bare && throwable)) node)) (adds_noted 12 x.decl.node Generic (not bare && throwable) n (decides bare throwable none thrown)) in
    adds_both Throws (Either Itself GenericAt) a m r one (adds_both Itself GenericAt m n r two three)
  where
    params : e.decl.now.params ≡ x.decl.params
    params = ap (λ (d : TypeDecl). d.params) is.decl

    decides : (b t : Bool) → IsTrue b ↔ (e.decl.now.params ≡ []) → IsTrue t ↔ IsThrowable j fs types c → Decides (not b && t) ((x.decl.params ≢ []) × IsThrowable j fs types c)
    decides true t none thrown = (λ never. absurd (cc never), λ h. absurd (h.0 (sym params ∙ none.0 refl)))
    decides false true none thrown = (λ h. (λ empty. let never : false ≡ true = none.1 (params ∙ empty) in cc never, thrown.0 refl), λ h. refl)
    decides false false none thrown = (λ never. absurd (cc never), λ h. absurd (let never : false ≡ true = thrown.1 h.1 in cc never))

pub super_first : (j : JavaNames) (fs : List File) (types : List TypeInfo) (n : ℕ) (r : Option Breach) → length (declarations fs) ≤ n → Adds (Below n (declarations fs) (SuperAt j fs types)) None r
    → IsFirst (SuperBreaches j fs types) r
super_first j fs types n r all adds =
    first_from_none (SuperBreaches j fs types) r (adds_alike (Below n (declarations fs) (SuperAt j fs types)) (SuperBreaches j fs types) None r (λ b. (to b, from b)) adds)
  where
    to : (b : Breach) → Below n (declarations fs) (SuperAt j fs types) b → SuperBreaches j fs types b
    to b (k, x, lt, at, inl throws) = inl (x, at_contains (declarations fs) k x at, throws)
    to b (k, x, lt, at, inr (inl itself)) = inr (inl (19 + k, x, (k, refl, at), itself))
    to b (k, x, lt, at, inr (inr generic)) = inr (inr (19 + k, x, (k, refl, at), generic))

    from : (b : Breach) → SuperBreaches j fs types b → Below n (declarations fs) (SuperAt j fs types) b
    from b (inl (x, has, throws)) =
        let there = contains_at (declarations fs) x has in
        let lt = slice_get_within (declarations fs) there.0 x there.1 in
        (there.0, x, omega (arith, lt, all), there.1, inl throws)
    from b (inr (inl (c, x, (k, is, at), itself))) =
        let lt = slice_get_within (declarations fs) k x at in
        (k, x, omega (arith, lt, all), at, subst (λ c. TypeBreaches j fs types c x b) is (inr (inl itself)))
    from b (inr (inr (c, x, (k, is, at), generic))) =
        let lt = slice_get_within (declarations fs) k x at in
        (k, x, omega (arith, lt, all), at, subst (λ c. TypeBreaches j fs types c x b) is (inr (inr generic)))
