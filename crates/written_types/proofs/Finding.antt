-- The walk finds the first of what is within written types.
use Rattle.std.proofs.Common.{◌≡◌, ◌⊎◌, inl, inr, Option, refl, subst}
use Rattle.java_tree.specs.Plain as t
use Rattle.java_tree.specs.Plain.{TypeExpr, TypeExprs}
use Rattle.rule_order.specs.declared.Breach.{Breach}
use Rattle.rule_order.specs.First.{Breaches, Either}
use Rattle.rule_order.specs.Noted.{At, Adds, noted}
use Rattle.rule_order.proofs.Adding.{adds_nothing, adds_both, adds_alike, adds_noted}
use Rattle.written_types.specs.Places.{Place}
use Rattle.written_types.specs.Breaks.{IsOneOf, IsArgument, IsWithin, itself, below, node_of, IsIllNamed, IllNamed}
use Rattle.written_types.specs.Walk.{is_ill_named, type, types}
use Rattle.written_types.proofs.Deciding.{ill_decides}

within_cases : (x z : TypeExpr) → IsWithin x z → (z ≡ x) ⊎ ((y : TypeExpr) × IsArgument x y × IsWithin y z)
within_cases x z (itself y) = inl refl
within_cases x z (below v y w h k) = inr (y, h, k)

module _ (p : Place) where
  abbrev Own : TypeExpr → Breaches
  Own x = At 1 (node_of x) (IsIllNamed p x)

  -- DR1 within an argument
  abbrev Within : TypeExpr → Breaches
  Within x b = (y : TypeExpr) × IsArgument x y × IllNamed p y b

  abbrev SomeOfThem : TypeExprs → Breaches
  SomeOfThem xs b = (y : TypeExpr) × IsOneOf xs y × IllNamed p y b

  own_and_within : (x : TypeExpr) (b : Breach) → Either (Own x) (Within x) b → IllNamed p x b
  own_and_within x b (inl u) = (x, itself x, u)
  own_and_within x b (inr (y, arg, (z, within, u))) = (z, below x y z arg within, u)

  own_or_within : (x : TypeExpr) (b : Breach) → IllNamed p x b → Either (Own x) (Within x) b
  own_or_within x b (z, within, u) = elim (within_cases x z within) [ inl e ↦ inl (subst (λ (z : TypeExpr). Own z b) e u) | inr k ↦ inr (k.0, k.1, (z, k.2, u)) ]

  mutual
    pub type_adds : (x : TypeExpr) (a : Option Breach) → Adds (IllNamed p x) a (type p x a)
    type_adds (t.Written n h s xs dims) a =
        let x = t.Written n h s xs dims in
        let m = noted a 1 n (is_ill_named p x) in
        adds_alike (Either (Own x) (SomeOfThem xs)) (IllNamed p x) a (types p xs m) (λ b. (own_and_within x b, own_or_within x b))
        (adds_both (Own x) (SomeOfThem xs) a m (types p xs m) (adds_noted 1 n (IsIllNamed p x) (is_ill_named p x) a (ill_decides p x)) (types_add xs m))

    types_add : (xs : TypeExprs) (a : Option Breach) → Adds (SomeOfThem xs) a (types p xs a)
    types_add t.NoTypes a = adds_nothing (SomeOfThem t.NoTypes) a (λ b h. h.1)
    types_add (t.AndType x xs) a =
        let m = type p x a in
        adds_alike (Either (IllNamed p x) (SomeOfThem xs)) (SomeOfThem (t.AndType x xs)) a (types p xs m)
        (λ b. (
          λ h. elim h [ inl u ↦ (x, inl refl, u) | inr u ↦ (u.0, inr u.1, u.2) ],
          λ h. elim (h.1) [ inl e ↦ inl (subst (λ (y : TypeExpr). IllNamed p y b) e h.2) | inr k ↦ inr (h.0, k, h.2) ],
        ))
        (adds_both (IllNamed p x) (SomeOfThem xs) a m (types p xs m) (type_adds x a) (types_add xs m))
