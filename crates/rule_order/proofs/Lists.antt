-- Sets over the items of lists.
use Rattle.std.proofs.Common.{◌≡◌, zero, suc, ◌⊎◌, inl, inr, Option, List, [], ◌∷◌, ◌++◌, refl, sym, subst, arith}
use Rattle.std.specs.Prelude.{Contains}
use Rattle.std.proofs.lemmas.List.Elements.{Contains-append_left, Contains-append_right, Contains-append_cases}
use Rattle.rule_order.specs.declared.Breach.{Breach}
use Rattle.rule_order.specs.First.{Breaches, Either}
use Rattle.rule_order.specs.Noted.{SomeOf, Adds}
use Rattle.rule_order.proofs.Adding.{adds_nothing, adds_both, adds_alike}

pub in_none : {A : Type 0} (y : A) → Contains [] y → ⊥
in_none y h = omega (arith, h.1)

pub in_first : {A : Type 0} (x : A) (xs : List A) → Contains (x ∷ xs) x
in_first x xs = (0, omega arith, refl)

pub in_rest : {A : Type 0} (x y : A) (xs : List A) → Contains xs y → Contains (x ∷ xs) y
in_rest x y xs h = (suc h.0, omega (arith, h.1), h.2)

pub in_cases : {A : Type 0} (x y : A) (xs : List A) → Contains (x ∷ xs) y → (y ≡ x) ⊎ Contains xs y
in_cases x y xs (zero, h, e) = inl (sym e)
in_cases x y xs (suc k, h, e) = inr (k, omega (arith, h), e)

pub some_none : {A : Type 0} (F : A → Breaches) (a : Option Breach) → Adds (SomeOf [] F) a a
some_none F a = adds_nothing (SomeOf [] F) a (λ b h. in_none h.0 h.1)

pub some_more : {A : Type 0} (F : A → Breaches) (x : A) (xs : List A) (a m r : Option Breach) → Adds (F x) a m → Adds (SomeOf xs F) m r → Adds (SomeOf (x ∷ xs) F) a r
some_more {A} F x xs a m r f g = adds_alike (Either (F x) (SomeOf xs F)) (SomeOf (x ∷ xs) F) a r (λ b. (to b, from b)) (adds_both (F x) (SomeOf xs F) a m r f g)
  where
    to : (b : Breach) → Either (F x) (SomeOf xs F) b → SomeOf (x ∷ xs) F b
    to b h = elim h [ inl u ↦ (x, in_first x xs, u) | inr u ↦ (u.0, in_rest x u.0 xs u.1, u.2) ]

    from : (b : Breach) → SomeOf (x ∷ xs) F b → Either (F x) (SomeOf xs F) b
    from b h = elim (in_cases x h.0 xs h.1) [ inl e ↦ inl (subst (λ (y : A). F y b) e h.2) | inr u ↦ inr (h.0, u, h.2) ]

pub some_append : {A : Type 0} (F : A → Breaches) (xs ys : List A) (a m r : Option Breach) → Adds (SomeOf xs F) a m → Adds (SomeOf ys F) m r → Adds (SomeOf (xs ++ ys) F) a r
some_append {A} F xs ys a m r f g = adds_alike (Either (SomeOf xs F) (SomeOf ys F)) (SomeOf (xs ++ ys) F) a r (λ b. (to b, from b)) (adds_both (SomeOf xs F) (SomeOf ys F) a m r f g)
  where
    to : (b : Breach) → Either (SomeOf xs F) (SomeOf ys F) b → SomeOf (xs ++ ys) F b
    to b h = elim h [ inl u ↦ (u.0, Contains-append_left xs ys u.0 u.1, u.2) | inr u ↦ (u.0, Contains-append_right xs ys u.0 u.1, u.2) ]

    from : (b : Breach) → SomeOf (xs ++ ys) F b → Either (SomeOf xs F) (SomeOf ys F) b
    from b h = elim (Contains-append_cases xs ys h.0 h.1) [ inl u ↦ inl (h.0, u, h.2) | inr u ↦ inr (h.0, u, h.2) ]
