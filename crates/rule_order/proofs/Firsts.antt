-- How finished searches for the first broken rule go together.
use Rattle.std.proofs.Common.{inl, inr, Option, Some, None, ◌↔◌, ◌∙◌, subst, sym, arith}
use Rattle.rule_order.specs.declared.Breach.{Breach}
use Rattle.rule_order.specs.First.{Breaches, Either, IsBefore, IsFirst, IsEarlier}

-- the first of a set is that of any set with the same members
pub first_alike : (A B : Breaches) → ((b : Breach) → A b ↔ B b) → (r : Option Breach) → IsFirst A r → IsFirst B r
first_alike A B same None none = λ b h. none b ((same b).1 h)
first_alike A B same (Some a) first = ((same a).0 first.0, λ b h. first.1 b ((same b).1 h))

-- one that comes before another comes before all behind it
pub before_through : (a b c : Breach) → IsBefore a b → IsBefore b c → IsBefore a c
before_through a b c (inl x) (inl y) = inl (omega (arith, x, y))
before_through a b c (inl x) (inr y) = inl (omega (arith, x, y.0))
before_through a b c (inr x) (inl y) = inl (omega (arith, x.0, y))
before_through a b c (inr x) (inr y) = inr (x.0 ∙ y.0, omega (arith, x.1, y.1))

-- the first of two sets together
pub first_of_both : (A B : Breaches) (a b r : Option Breach) → IsEarlier a b r → IsFirst A a → IsFirst B b → IsFirst (Either A B) r
first_of_both A B None b r is none first = subst (IsFirst (Either A B)) (sym is) (only b first)
  where
    only : (b : Option Breach) → IsFirst B b → IsFirst (Either A B) b
    only None h = λ x k. elim k [ inl u ↦ none x u | inr u ↦ h x u ]
    only (Some y) h = (inr h.0, λ x k. elim k [ inl u ↦ absurd (none x u) | inr u ↦ h.1 x u ])
first_of_both A B (Some a) None r is first none = subst (IsFirst (Either A B)) (sym is) (inl first.0, λ x k. elim k [ inl u ↦ first.1 x u | inr u ↦ absurd (none x u) ])
first_of_both A B (Some a) (Some b) r (inl is) first other =
    subst (IsFirst (Either A B)) (sym is.0) (inl first.0, λ x k. elim k [ inl u ↦ first.1 x u | inr u ↦ before_through a b x is.1 (other.1 x u) ])
first_of_both A B (Some a) (Some b) r (inr is) first other =
    subst (IsFirst (Either A B)) (sym is.0) (inr other.0, λ x k. elim k [ inl u ↦ before_through b a x is.1 (first.1 x u) | inr u ↦ other.1 x u ])
