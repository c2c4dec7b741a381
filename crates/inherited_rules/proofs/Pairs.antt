-- Pairs of members, of which the search looks at each once.
use Rattle.std.proofs.Common.{◌≡◌, ℕ, ◌+◌, ◌<◌, ◌≤◌, Bool, true, false, cond, nat_eq, map, List, Option, None, Some, ◌⊎◌, inl, inr, refl, sym, ap, ◌∙◌, subst, length, arith}
use Rattle.std.specs.Prelude.{slice_get}
use Rattle.std.specs.List.{Contains}
use Rattle.std.proofs.lemmas.Bool.{cases_eq, eq-eqb, ne_eqb, cond-true, cond-false}
use Rattle.std.proofs.lemmas.Option.{slice_get_read, slice_get_within}
use Rattle.class_world.specs.declared.world.World.{World}
use Rattle.class_world.specs.declared.world.MethodInfo.{MethodInfo}
use Rattle.class_world.specs.Types.{erased}
use Rattle.class_world.specs.Sound.{IsKnown, IsSound}
use Rattle.class_world.specs.Signatures.{HasParams, HaveOneSignatureIn, IsMethod}
use Rattle.class_world.specs.Inheritance.{DeclaresMethod, IsMemberMethod, declared, inherited}
use Rattle.class_world.proofs.Substs.{there_is}
use Rattle.seen_methods.specs.Closed.{HasClosedParams}
use Rattle.seen_methods.proofs.Belows.{one_params}
use Rattle.member_methods.specs.Methods.{AreMembers}
use Rattle.inherited_rules.specs.Rules.{HasClash, HaveOneErasure, IsInherited}
use Rattle.inherited_rules.specs.Numbers.{AreErased, AreLike, AreSingle, IsAlone, IsClosedOrAlone}
use Rattle.inherited_rules.proofs.Members.{member_seen, signature_namesakes, signature_params}
use Rattle.inherited_rules.proofs.Named.{lower_or_last}

one_first : (m k : ℕ) → (m < k) ⊎ (m ≡ k) ⊎ (k < m)
one_first m k = grind arith

pub signature_swap : (w : World) (c m k : ℕ) → HaveOneSignatureIn w c m k → HaveOneSignatureIn w c k m
signature_swap w c m k h = ((h.0.1, h.0.0, h.0.3, h.0.2, sym h.0.4), (h.1.0, h.1.2, h.1.1))

-- methods that have one signature with a third have one
pub signature_through : (w : World) → IsSound w → (c f m k : ℕ) → HaveOneSignatureIn w c f m → HaveOneSignatureIn w c f k → HaveOneSignatureIn w c m k
signature_through w sound c f m k a b =
    let same_f : a.0.0 ≡ b.0.0 = cc (a.0.2.0, b.0.2.0) in
    let same : b.1.0 ≡ a.1.0 = one_params w sound c f b.1.0 a.1.0 b.1.1 a.1.1 in
    ((a.0.1, b.0.1, a.0.3, b.0.3, sym a.0.4 ∙ ap (λ (i : MethodInfo). i.name) same_f ∙ b.0.4), (a.1.0, a.1.2, subst (HasParams w c k) same b.1.2))

-- where m stands in the list
place_of : (ms : List ℕ) (m : ℕ) → Contains ms m → (j : ℕ) × (j < length ms) × (slice_get ms j ≡ Some m)
place_of ms m has = (has.0, has.1, slice_get_read ms (length ms) has.0 m refl has.1 (sym has.2))

-- ---- numbers

member_method : (w : World) (c m : ℕ) → IsMemberMethod w c m → (info : MethodInfo) × IsMethod w m info
member_method w c m (declared d) = (d.0, d.1)
member_method w c m (inherited {s = s} above member kept none) = member_method w s m member

module _ (w : World) (numbers : List ℕ) (erasures : AreErased w numbers) where
  -- each method has a number
  pub number_of : (m : ℕ) (info : MethodInfo) → slice_get w.methods m ≡ Some info → (n : ℕ) × (slice_get numbers m ≡ Some n)
  number_of m info at = let lt = slice_get_within w.methods m info at in let size = erasures.size in there_is numbers m (omega (arith, lt, size))

  -- so has each member
  pub member_within : (c : ℕ) (ms : List ℕ) → AreMembers w c ms → (m : ℕ) → Contains ms m → m < length numbers
  member_within c ms members m has =
      let is = member_method w c m ((members m).0 has) in
      let lt = slice_get_within w.methods m is.0 is.1.0 in
      let size = erasures.size in
      omega (arith, lt, size)

  -- methods without type variables have one number where they have one signature
  closed_number : (c m k a b : ℕ) → HaveOneSignatureIn w c m k → HasClosedParams w m → HasClosedParams w k → slice_get numbers m ≡ Some a → slice_get numbers k ≡ Some b → a ≡ b
  closed_number c m k a b h closed_m closed_k at_m at_k =
      let i = h.0.0 in
      let j = h.0.1 in
      let p = signature_params w c m k i j h.0.2 h.0.3 h in
      let same : i.params ≡ j.params = sym (closed_m i h.0.2 p.0) ∙ p.2 ∙ closed_k j h.0.3 p.1 in
      (erasures.told m k a b i j h.0.2.0 h.0.3.0 at_m at_k).1 (h.0.4, ap (map erased) same)

  -- methods of one number have one erasure
  pub one_erasure : (m k n : ℕ) (i j : MethodInfo) → IsMethod w m i → IsMethod w k j → slice_get numbers m ≡ Some n → slice_get numbers k ≡ Some n → HaveOneErasure w m k
  one_erasure m k n i j mi kj at_m at_k = let told = (erasures.told m k n n i j mi.0 kj.0 at_m at_k).0 refl in (i, j, mi, kj, told.0, told.1)

  -- ---- members that may have one signature

  module _ (c : ℕ) (ms : List ℕ) where
    pub single_none : (has : ℕ → Bool) → AreSingle w c numbers ms 0 has
    single_none has = record { held = λ j m n lt. absurd (omega (arith, lt)); closed = λ j m lt. absurd (omega (arith, lt)); apart = λ j l m k n _ lt. absurd (omega (arith, lt)) }

    -- one that c declares
    pub single_skip : (i m : ℕ) (has : ℕ → Bool) → slice_get ms i ≡ Some m → DeclaresMethod w c m → AreSingle w c numbers ms i has → AreSingle w c numbers ms (i + 1) has
    single_skip i m has at own old = record {
      held = λ j x q lt at_j other number_x. old.held j x q (low j x lt at_j other) at_j other number_x;
      closed = λ j x lt at_j other. old.closed j x (low j x lt at_j other) at_j other;
      apart = λ j l x y q less lt at_j at_l other_x other_y. old.apart j l x y q less (low l y lt at_l other_y) at_j at_l other_x other_y;
    }
      where
        low : (j x : ℕ) → j < i + 1 → slice_get ms j ≡ Some x → (DeclaresMethod w c x → ⊥) → j < i
        low j x lt at_j other = elim (lower_or_last j i lt) [
          | inl before ↦ before
          | inr last ↦
              let same : m ≡ x = let both : Some m ≡ Some x = sym at ∙ ap (slice_get ms) (sym last) ∙ at_j in cc both in
              absurd (other (subst (DeclaresMethod w c) same own))
        ]

    -- one of a new number
    pub single_more : (i m n : ℕ) (has new : ℕ → Bool) → slice_get ms i ≡ Some m → slice_get numbers m ≡ Some n → has n ≡ false → ((q : ℕ) → new q ≡ cond (nat_eq n q) true (has q)) → IsClosedOrAlone w c m
        → AreSingle w c numbers ms i has → AreSingle w c numbers ms (i + 1) new
    single_more i m n has new at number fresh puts settled old = record {
      held = λ j x q lt at_j other number_x. elim (lower_or_last j i lt) [
        | inl before ↦ puts q ∙ more (nat_eq n q) (has q) (old.held j x q before at_j other number_x)
        | inr last ↦ puts q ∙ cond-true _ _ _ (eq-eqb n q (sym (same_number x q (same_at j x last at_j) number_x)))
      ];
      closed = λ j x lt at_j other. elim (lower_or_last j i lt) [
        | inl before ↦ old.closed j x before at_j other
        | inr last ↦ subst (IsClosedOrAlone w c) (sym (same_at j x last at_j)) settled
      ];
      apart = λ j l x y q less lt at_j at_l other_x other_y number_x number_y. elim (lower_or_last l i lt) [
        | inl before ↦ old.apart j l x y q less before at_j at_l other_x other_y number_x number_y
        | inr last ↦
            let there = old.held j x q (omega (arith, less, last)) at_j other_x number_x in
            let same = same_number y q (same_at l y last at_l) number_y in
            let never : true ≡ false = sym there ∙ ap has same ∙ fresh in
            cc never
      ];
    }
      where
        same_at : (j x : ℕ) → j ≡ i → slice_get ms j ≡ Some x → x ≡ m
        same_at j x last at_j = let both : Some x ≡ Some m = sym at_j ∙ ap (slice_get ms) last ∙ at in cc both

        same_number : (x q : ℕ) → x ≡ m → slice_get numbers x ≡ Some q → q ≡ n
        same_number x q same number_x = let both : Some q ≡ Some n = sym number_x ∙ ap (slice_get numbers) same ∙ number in cc both

        more : (b x : Bool) → x ≡ true → cond b true x ≡ true
        more true x on = refl
        more false x on = on

    -- of two members of one signature one that is alone is the other
    alone_same : (m k : ℕ) → IsAlone w c m → IsMemberMethod w c k → HaveOneSignatureIn w c m k → k ≡ m
    alone_same m k alone member one = let both = signature_namesakes w c m k one in alone both.0 both.2 k (member, (both.1, both.3, sym both.4, sym both.5))

    -- two members of one signature have one number
    settled_number : (m k a b : ℕ) → HaveOneSignatureIn w c m k → IsMemberMethod w c m → IsMemberMethod w c k → IsClosedOrAlone w c m → IsClosedOrAlone w c k → slice_get numbers m ≡ Some a → slice_get numbers k ≡ Some b
        → a ≡ b
    settled_number m k a b one member_m member_k settled_m settled_k at_m at_k = elim settled_m [
      | inr alone_m ↦ of_same (alone_same m k alone_m member_k one)
      | inl closed_m ↦ elim settled_k [
        | inr alone_k ↦ of_same (sym (alone_same k m alone_k member_m (signature_swap w c m k one)))
        | inl closed_k ↦ closed_number c m k a b one closed_m closed_k at_m at_k
      ]
    ]
      where
        of_same : k ≡ m → a ≡ b
        of_same same = let both : Some a ≡ Some b = sym at_m ∙ ap (slice_get numbers) (sym same) ∙ at_k in cc both

    -- two members, the first before the second
    single_before : (i j l m k : ℕ) (has : ℕ → Bool) → AreSingle w c numbers ms i has → j < l → l < i → slice_get ms j ≡ Some m → slice_get ms l ≡ Some k → IsInherited w c m → IsInherited w c k
        → HaveOneSignatureIn w c m k → ⊥
    single_before i j l m k has single less lt at_m at_k in_m in_k one =
        let a = number_of m one.0.0 one.0.2.0 in
        let b = number_of k one.0.1 one.0.3.0 in
        let same = settled_number m k a.0 b.0 one in_m.0 in_k.0 (single.closed j m (omega (arith, less, lt)) at_m in_m.1) (single.closed l k lt at_k in_k.1) a.1 b.1 in
        single.apart j l m k a.0 less lt at_m at_k in_m.1 in_k.1 a.1 (b.1 ∙ ap Some (sym same))

    -- no two have one signature
    pub single_told : (i : ℕ) (has : ℕ → Bool) → AreMembers w c ms → AreSingle w c numbers ms i has → length ms ≤ i → (m k : ℕ) → IsInherited w c m → IsInherited w c k → HaveOneSignatureIn w c m k → m ≡ k
    single_told i has members single le m k inherits_m inherits_k one =
        let at_m = place_of ms m ((members m).1 inherits_m.0) in
        let at_k = place_of ms k ((members k).1 inherits_k.0) in
        elim (one_first at_m.0 at_k.0) [
          | inl before ↦ absurd (single_before i at_m.0 at_k.0 m k has single before (omega (arith, at_k.1, le)) at_m.2 at_k.2 inherits_m inherits_k one)
          | inr (inl same) ↦ let both : Some m ≡ Some k = sym at_m.2 ∙ ap (slice_get ms) same ∙ at_k.2 in cc both
          | inr (inr behind) ↦ absurd (single_before i at_k.0 at_m.0 k m has single behind (omega (arith, at_m.1, le)) at_k.2 at_m.2 inherits_k inherits_m (signature_swap w c m k one))
        ]

  -- ---- clashes

  module _ (sound : IsSound w) (c : ℕ) (ms : List ℕ) where
    pub like_none : (find : ℕ → Option ℕ) → ((n : ℕ) → find n ≡ None) → AreLike w c numbers ms 0 find
    like_none find none = record { kept = λ j m n lt. absurd (omega (arith, lt)); from = λ n f e. let never : None ≡ Some f = sym (none n) ∙ e in absurd (cc never) }

    -- the next one has one signature with the first of its number
    pub like_same : (i m n f : ℕ) (find : ℕ → Option ℕ) → slice_get ms i ≡ Some m → slice_get numbers m ≡ Some n → find n ≡ Some f → HaveOneSignatureIn w c f m → AreLike w c numbers ms i find
        → AreLike w c numbers ms (i + 1) find
    like_same i m n f find at number found one old = record {
      kept = λ j x q lt at_j number_x. elim (lower_or_last j i lt) [
        | inl before ↦ old.kept j x q before at_j number_x
        | inr last ↦
            let same : m ≡ x = let both : Some m ≡ Some x = sym at ∙ ap (slice_get ms) (sym last) ∙ at_j in cc both in
            let same_n : n ≡ q = let both : Some n ≡ Some q = sym number ∙ ap (slice_get numbers) same ∙ number_x in cc both in
            (f, ap find (sym same_n) ∙ found, subst (HaveOneSignatureIn w c f) same one)
      ];
      from = old.from;
    }

    -- the next one is the first of its number
    pub like_more : (i m n : ℕ) (find new : ℕ → Option ℕ) → slice_get ms i ≡ Some m → slice_get numbers m ≡ Some n → find n ≡ None → ((q : ℕ) → new q ≡ cond (nat_eq n q) (Some m) (find q)) → IsMemberMethod w c m
        → HaveOneSignatureIn w c m m → AreLike w c numbers ms i find → AreLike w c numbers ms (i + 1) new
    like_more i m n find new at number none puts member one old = record {
      kept = λ j x q lt at_j number_x. elim (lower_or_last j i lt) [
        | inl before ↦
            let k = old.kept j x q before at_j number_x in
            let other : n ≡ q → ⊥ = λ e. let never : None ≡ Some k.0 = sym none ∙ ap find e ∙ k.1 in cc never in
            (k.0, puts q ∙ cond-false _ _ _ (ne_eqb n q other) ∙ k.1, k.2)
        | inr last ↦
            let same : m ≡ x = let both : Some m ≡ Some x = sym at ∙ ap (slice_get ms) (sym last) ∙ at_j in cc both in
            let same_n : n ≡ q = let both : Some n ≡ Some q = sym number ∙ ap (slice_get numbers) same ∙ number_x in cc both in
            (m, puts q ∙ cond-true _ _ _ (eq-eqb n q same_n), subst (HaveOneSignatureIn w c m) same one)
      ];
      from = λ q f e. elim (cases_eq n q) [
        | inl same ↦
            let is : m ≡ f = let both : Some m ≡ Some f = sym (cond-true _ _ _ (eq-eqb n q same)) ∙ sym (puts q) ∙ e in cc both in
            (ap (slice_get numbers) (sym is) ∙ number ∙ ap Some same, subst (IsMemberMethod w c) is member)
        | inr other ↦ old.from q f (sym (cond-false _ _ _ (ne_eqb n q other)) ∙ sym (puts q) ∙ e)
      ];
    }

    pub clash_none : (i : ℕ) (find : ℕ → Option ℕ) → AreMembers w c ms → AreLike w c numbers ms i find → length ms ≤ i → HasClash w c → ⊥
    clash_none i find members like le h =
        let m = h.0 in
        let k = h.1 in
        let at_m = place_of ms m ((members m).1 h.2) in
        let at_k = place_of ms k ((members k).1 h.3) in
        let erasure = h.4 in
        let a = number_of m erasure.0 erasure.2.0 in
        let b = number_of k erasure.1 erasure.3.0 in
        let same : a.0 ≡ b.0 = (erasures.told m k a.0 b.0 erasure.0 erasure.1 erasure.2.0 erasure.3.0 a.1 b.1).1 (erasure.4, erasure.5) in
        let first = like.kept at_m.0 m a.0 (omega (arith, at_m.1, le)) at_m.2 a.1 in
        let second = like.kept at_k.0 k b.0 (omega (arith, at_k.1, le)) at_k.2 b.1 in
        let one : second.0 ≡ first.0 = let both : Some second.0 ≡ Some first.0 = sym second.1 ∙ ap find (sym same) ∙ first.1 in cc both in
        h.5 (signature_through w sound c first.0 m k first.2 (subst (λ f. HaveOneSignatureIn w c f k) one second.2))

    -- a member that has not the signature of the first of its number
    pub clash_told : (m n f : ℕ) (i : ℕ) (find : ℕ → Option ℕ) → IsKnown w c → AreMembers w c ms → Contains ms m → slice_get numbers m ≡ Some n → find n ≡ Some f → AreLike w c numbers ms i find
        → (HaveOneSignatureIn w c f m → ⊥) → HasClash w c
    clash_told m n f i find known members has number found like other =
        let from = like.from n f found in
        let member = (members m).0 has in
        let first = member_seen w sound c f from.1 known.0 known.1 in
        let second = member_seen w sound c m member known.0 known.1 in
        (f, m, from.1, member, one_erasure f m n first.0 second.0 first.1 second.1 from.0 number, other)
