-- The first broken rule so far, and one more set of them.
use Rattle.std.proofs.Common.{◌≡◌, ℕ, ◌<◌, ◌≤◌, ◌⊎◌, inl, inr, Bool, true, false, Option, Some, None, ◌↔◌, refl, sym, subst, ap, ◌∙◌, arith}
use Rattle.std.specs.Prelude.{nat_lt, nat_eq, nat_le, ◌||◌, ◌&&◌, Decides}
use Rattle.std.proofs.lemmas.Bool.Decides.{nat_tests}
use Rattle.java_tree.specs.declared.tree.Node.{Node}
use Rattle.rule_order.specs.declared.Breach.{Breach}
use Rattle.rule_order.specs.First.{Breaches, Either, IsBefore, IsFirst, IsEarlier}
use Rattle.rule_order.proofs.Firsts.{first_alike, first_of_both, before_through}
use Rattle.rule_order.specs.Noted.{At, Only, Adds, is_before, choose, earlier_of, noted}

pub first_only : (a : Option Breach) → IsFirst (Only a) a
first_only None = λ b h. h
first_only (Some a) = (refl, λ b e. inr (ap (λ (x : Breach). x.node) (sym e), omega (arith, ap (λ (x : Breach). x.rule) e)))

-- ---- the earlier one, as it computes

before_when : (n m r s : ℕ) → nat_lt n m || (nat_eq n m && nat_le r s) ≡ true → (n < m) ⊎ ((n ≡ m) × (r ≤ s))
before_when n m r s e = grind (arith, nat_tests, e)

behind_when : (n m r s : ℕ) → nat_lt n m || (nat_eq n m && nat_le r s) ≡ false → (m < n) ⊎ ((m ≡ n) × (s ≤ r))
behind_when n m r s e = grind (arith, nat_tests, e)

same_numbers : (n m r s : ℕ) → (n < m) ⊎ ((n ≡ m) × (r ≤ s)) → (m < n) ⊎ ((m ≡ n) × (s ≤ r)) → (n ≡ m) × (r ≡ s)
same_numbers n m r s (inl x) (inl y) = absurd (omega arith)
same_numbers n m r s (inl x) (inr y) = absurd (omega (arith, y.0))
same_numbers n m r s (inr x) (inl y) = absurd (omega (arith, x.0))
same_numbers n m r s (inr x) (inr y) = (x.0, omega (arith, x.1, y.1))

abbrev same_record : ℕ → ℕ → ℕ → ℕ → Type 0
same_record n r m s = ◌≡◌ {A = Breach} (record { node = n; rule = r }) (record { node = m; rule = s })

same_breach : (a b : Breach) → IsBefore a b → IsBefore b a → a ≡ b
same_breach a b f g = let same = same_numbers a.node b.node a.rule b.rule f g in made a.node b.node a.rule b.rule same.0 same.1
  where
    made : (n m r s : ℕ) → n ≡ m → r ≡ s → same_record n r m s
    made n m r s e f = rw (e, f) refl

chosen : (a b : Breach) (t : Bool) → is_before a b ≡ t → IsEarlier (Some a) (Some b) (choose t a b)
chosen a b true e = inl (refl, before_when a.node b.node a.rule b.rule e)
chosen a b false e = inr (refl, behind_when a.node b.node a.rule b.rule e)

pub earlier_is : (a b : Option Breach) → IsEarlier a b (earlier_of a b)
earlier_is None b = refl
earlier_is (Some a) None = refl
earlier_is (Some a) (Some b) = chosen a b (is_before a b) refl

one_answer : (a b : Breach) (r s : Option Breach) → IsEarlier (Some a) (Some b) r → IsEarlier (Some a) (Some b) s → r ≡ s
one_answer a b r s (inl x) (inl y) = x.0 ∙ sym y.0
one_answer a b r s (inl x) (inr y) = x.0 ∙ ap Some (same_breach a b x.1 y.1) ∙ sym y.0
one_answer a b r s (inr x) (inl y) = x.0 ∙ ap Some (same_breach b a x.1 y.1) ∙ sym y.0
one_answer a b r s (inr x) (inr y) = x.0 ∙ sym y.0

pub earlier_same : (a b r : Option Breach) → IsEarlier a b r → r ≡ earlier_of a b
earlier_same None b r e = e
earlier_same (Some a) None r e = e
earlier_same (Some a) (Some b) r e = one_answer a b r (earlier_of (Some a) (Some b)) e (earlier_is (Some a) (Some b))

-- ---- sets

pub adds_nothing : (S : Breaches) (a : Option Breach) → ((b : Breach) → S b → ⊥) → Adds S a a
adds_nothing S a none = first_alike (Only a) (Either (Only a) S) (λ b. (λ h. inl h, λ h. elim h [ inl u ↦ u | inr u ↦ absurd (none b u) ])) a (first_only a)

pub adds_alike : (S T : Breaches) (a r : Option Breach) → ((b : Breach) → S b ↔ T b) → Adds S a r → Adds T a r
adds_alike S T a r same adds =
    first_alike (Either (Only a) S) (Either (Only a) T) (λ b. (λ h. elim h [ inl u ↦ inl u | inr u ↦ inr ((same b).0 u) ], λ h. elim h [ inl u ↦ inl u | inr u ↦ inr ((same b).1 u) ])) r adds

pub adds_both : (S T : Breaches) (a b c : Option Breach) → Adds S a b → Adds T b c → Adds (Either S T) a c
adds_both S T a None None f g = λ x h. elim h [ inl u ↦ f x (inl u) | inr u ↦ elim u [ inl v ↦ f x (inr v) | inr v ↦ g x (inr v) ] ]
adds_both S T a (Some y) None f g = absurd (g y (inl refl))
adds_both S T a None (Some z) f g = (
  elim (g.0) [ inl u ↦ absurd u | inr u ↦ inr (inr u) ],
  λ x h. elim h [ inl u ↦ absurd (f x (inl u)) | inr u ↦ elim u [ inl v ↦ absurd (f x (inr v)) | inr v ↦ g.1 x (inr v) ] ],
)
adds_both S T a (Some y) (Some z) f g = (
  elim (g.0) [ inl u ↦ subst (λ w. Either (Only a) (Either S T) w) (sym u) (widen (f.0)) | inr u ↦ inr (inr u) ],
  λ x h. elim h [ inl u ↦ through x (f.1 x (inl u)) | inr u ↦ elim u [ inl v ↦ through x (f.1 x (inr v)) | inr v ↦ g.1 x (inr v) ] ],
)
  where
    widen : Either (Only a) S y → Either (Only a) (Either S T) y
    widen h = elim h [ inl u ↦ inl u | inr u ↦ inr (inl u) ]

    through : (x : Breach) → IsBefore y x → IsBefore z x
    through x h = before_through z y x (g.1 y (inl refl)) h

pub adds_noted : (rule : ℕ) (node : Node) (P : Type 0) (holds : Bool) (a : Option Breach) → Decides holds P → Adds (At rule node P) a (noted a rule node holds)
adds_noted rule node P true a d =
    let b : Breach = record { node = node.id; rule = rule } in
    first_of_both (Only a) (At rule node P) a (Some b) (earlier_of a (Some b)) (earlier_is a (Some b)) (first_only a)
    ((refl, refl, d.0 refl), λ x h. inr (sym h.1, omega (arith, h.0)))
adds_noted rule node P false a d = adds_nothing (At rule node P) a (λ b h. absurd (cc (d.1 (h.2))))

-- the first of a set alone
pub first_from_none : (S : Breaches) (r : Option Breach) → Adds S None r → IsFirst S r
first_from_none S r adds = first_alike (Either (Only None) S) S (λ b. (λ h. elim h [ inl u ↦ absurd u | inr u ↦ u ], λ h. inr h)) r adds
