-- Signatures in a set, by their numbers, and what the set tells of a method from above.
use Rattle.std.proofs.Common.{◌≡◌, ℕ, ◌+◌, ◌≤◌, Bool, true, false, cond, nat_eq, List, None, Some, inl, inr, IsTrue, ◌↔◌, refl, sym, ap, ◌∙◌, subst, length}
use Rattle.std.specs.Prelude.{slice_get}
use Rattle.std.specs.HashSet.{contains}
use Rattle.std.proofs.lemmas.Bool.{true≢false, cases_eq, eq-eqb, ne_eqb, cond-true, cond-false}
use Rattle.java_tree.specs.declared.tree.Name.{Name}
use Rattle.class_world.specs.declared.world.World.{World}
use Rattle.class_world.specs.declared.world.MethodInfo.{MethodInfo}
use Rattle.class_world.specs.declared.world.JavaType.{JavaType}
use Rattle.class_world.specs.Types.{variables}
use Rattle.class_world.specs.Sound.{IsSound}
use Rattle.class_world.specs.Signatures.{IsSeenWith, IsMethod, HaveOneName}
use Rattle.class_world.specs.Inheritance.{DeclaresMethod}
use Rattle.seen_methods.specs.Seen.{TellsParams}
use Rattle.signature_numbers.specs.Steps.{Steps}
use Rattle.signature_numbers.specs.Numbers.{AreApart, number_in}
use Rattle.member_methods.specs.declared.signature_set.SignatureSet.{SignatureSet}
use Rattle.member_methods.specs.SignatureSets.{HasSignature, HasSignaturesOf}
use Rattle.member_methods.specs.Signed.{AreOwnNamed, IsReplaced}
use Rattle.member_methods.proofs.Firsts.{Among, among_none, among_last, among_more, among_cases, among_all, among_contains}
use Rattle.member_methods.proofs.Seen.{own_params, own_puts, seen_own}

-- what has a number keeps it
abbrev pub Keep : Steps → Steps → Type 0
Keep s t = (a : Name) (ps : List JavaType) (n : ℕ) → number_in s a ps ≡ Some n → number_in t a ps ≡ Some n

-- the numbers in the set are those of the first i methods' signatures
pub record AreFirst (w : World) (methods : List ℕ) (i : ℕ) (t : Steps) (has : ℕ → Bool) : Type 0 where
  pub apart : AreApart t
  pub each : (k : ℕ) (info : MethodInfo) → Among methods i k → slice_get w.methods k ≡ Some info → (n : ℕ) × (number_in t info.name info.params ≡ Some n) × IsTrue (has n)
  pub from : (n : ℕ) → IsTrue (has n) → (k : ℕ) × (info : MethodInfo) × Among methods i k × (slice_get w.methods k ≡ Some info) × (number_in t info.name info.params ≡ Some n)

pub first_none : (w : World) (methods : List ℕ) (t : Steps) (has : ℕ → Bool) → ((a : Name) (ps : List JavaType) → number_in t a ps ≡ None) → ((n : ℕ) → has n ≡ false) → AreFirst w methods 0 t has
first_none w methods t has none empty = record {
  apart = λ a b ps qs n e f. let never : None ≡ Some n = sym (none a ps) ∙ e in absurd (cc never);
  each = λ k info there at. absurd (among_none methods k there);
  from = λ n h. absurd (true≢false (sym h ∙ empty n));
}

module _ (w : World) (methods : List ℕ) (i y : ℕ) (at_y : slice_get methods i ≡ Some y) where
  -- a number of no method adds nothing
  pub first_skip : (t : Steps) (has : ℕ → Bool) → AreFirst w methods i t has → slice_get w.methods y ≡ None → AreFirst w methods (i + 1) t has
  first_skip t has before none = record {
    apart = before.apart;
    each = λ k info there at. elim (among_cases methods i k y at_y there) [
      | inl low ↦ before.each k info low at
      | inr last ↦ let never : None ≡ Some info = sym none ∙ ap (slice_get w.methods) (sym last) ∙ at in absurd (cc never)
    ];
    from = λ n h. let f = before.from n h in (f.0, f.1, among_more methods i f.0 f.2, f.3, f.4);
  }

  module _ (s t : Steps) (has new : ℕ → Bool) (info : MethodInfo) (n : ℕ) (before : AreFirst w methods i s has) (at : slice_get w.methods y ≡ Some info) (keep : Keep s t) (apart : AreApart t) (number : number_in t info.name info.params ≡ Some n) (adds : (q : ℕ) → new q ≡ cond (nat_eq n q) true (has q)) where
    kept_in : (q : ℕ) → IsTrue (has q) → IsTrue (new q)
    kept_in q h = elim (cases_eq n q) [
      | inl same ↦ adds q ∙ cond-true (nat_eq n q) true (has q) (eq-eqb n q same)
      | inr other ↦ adds q ∙ cond-false (nat_eq n q) true (has q) (ne_eqb n q other) ∙ h
    ]

    here_in : IsTrue (new n)
    here_in = adds n ∙ cond-true (nat_eq n n) true (has n) (eq-eqb n n refl)

    -- the signature of one more method
    pub first_next : AreFirst w methods (i + 1) t new
    first_next = record {
      apart = apart;
      each = λ k own there at_k. elim (among_cases methods i k y at_y there) [
        | inl low ↦ let e = before.each k own low at_k in (e.0, keep own.name own.params e.0 e.1, kept_in e.0 e.2)
        | inr last ↦
            let same : info ≡ own = let both : Some info ≡ Some own = sym at ∙ ap (slice_get w.methods) (sym last) ∙ at_k in cc both in
            (n, subst (λ (o : MethodInfo). number_in t o.name o.params ≡ Some n) same number, here_in)
      ];
      from = λ q h. elim (cases_eq n q) [
        | inl same ↦ (y, info, among_last methods i y at_y, at, number ∙ ap Some same)
        | inr other ↦
            let f = before.from q (sym (adds q ∙ cond-false (nat_eq n q) true (has q) (ne_eqb n q other)) ∙ h) in
            (f.0, f.1, among_more methods i f.0 f.2, f.3, keep f.1.name f.1.params q f.4)
      ];
    }

-- of all methods
pub set_told : (w : World) (methods : List ℕ) (i : ℕ) (s : SignatureSet) → length methods ≤ i → AreFirst w methods i s.numbers (contains nat_eq s.members) → HasSignaturesOf w methods s
set_told w methods i s full first a ps = (
  λ h.
      let f = first.from h.0 h.2 in
      let same = first.apart f.1.name a f.1.params ps h.0 f.4 h.1 in
      (f.0, among_contains methods i f.0 f.2, f.1, f.3, same.0, same.1),
  λ h.
      let e = first.each h.0 h.2 (among_all methods i h.0 full h.1) h.3 in
      (e.0, ap (λ n. number_in s.numbers n ps) (sym h.4) ∙ ap (number_in s.numbers h.2.name) (sym h.5) ∙ e.1, e.2),
)

-- ---- a method from above

module _ (w : World) (sound : IsSound w) (c m : ℕ) (methods : List ℕ) (info : MethodInfo) (at : slice_get w.methods m ≡ Some info) (own : AreOwnNamed w c methods m) where
  -- its parameter types as c sees them stand in the set exactly if an own method has its signature in c
  pub found_told : (s : SignatureSet) (ps : List JavaType) → HasSignaturesOf w methods s → TellsParams w c m (Some ps) → HasSignature s info.name ps ↔ IsReplaced w c methods m
  found_told s ps has told = (
    λ h.
        let k = (has info.name ps).0 h in
        let mine = own k.0 k.1 in
        let there = told.0.3 in
        let is : IsMethod w k.0 k.2 = (k.3, ap (λ (i : MethodInfo). i.constructor) (same_k k.0 k.2 k.3 mine.1) ∙ mine.1.2.1) in
        let seen : IsSeenWith w c k.2.owner (variables 0 there.0.params) = subst (λ g. IsSeenWith w c g (variables 0 there.0.params)) (sym (owner k.0 k.2 k.3 mine.0)) (seen_own w c there.0 there.1) in
        (k.0, k.1, (mine.1, (ps, (k.2, is, variables 0 there.0.params, seen, sym (own_puts there.0.params k.2.params ∙ k.5)), told.0))),
    λ h.
        let mine = own h.0 h.1 in
        let d = mine.0 in
        let mine_is : h.2.1.0 ≡ d.0.params = own_params w sound c h.0 d.0 h.2.1.0 d.1 d.2 h.2.1.1 in
        let name : d.0.name ≡ info.name =
        ap (λ (i : MethodInfo). i.name) (same_k h.0 d.0 d.1.0 mine.1) ∙ mine.1.4 ∙ ap (λ (i : MethodInfo). i.name) (same_m h.0 mine.1) in
        (has info.name ps).1 (h.0, h.1, d.0, d.1.0, name, sym mine_is ∙ told.1 h.2.1.0 h.2.1.2),
  )
    where
      same_k : (k : ℕ) (i : MethodInfo) → slice_get w.methods k ≡ Some i → (named : HaveOneName w k m) → i ≡ named.0
      same_k k i at_k named = cc (at_k, named.2.0)

      same_m : (k : ℕ) → (named : HaveOneName w k m) → named.1 ≡ info
      same_m k named = cc (at, named.3.0)

      owner : (k : ℕ) (i : MethodInfo) → slice_get w.methods k ≡ Some i → DeclaresMethod w c k → i.owner ≡ c
      owner k i at_k d = let e : i ≡ d.0 = cc (at_k, d.1.0) in ap (λ (x : MethodInfo). x.owner) e ∙ d.2
