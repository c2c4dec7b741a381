-- The first broken rule, from type to type.
use Rattle.std.proofs.Common.{◌≡◌, ℕ, ◌+◌, ◌<◌, ◌≤◌, ◌⊎◌, inl, inr, Option, None, Some, subst, length, arith}
use Rattle.std.proofs.lemmas.Option.{slice_get_within}
use Rattle.class_world.specs.declared.world.World.{World}
use Rattle.rule_order.specs.declared.Breach.{Breach}
use Rattle.rule_order.specs.First.{Breaches, Either, IsEarlier, IsFirst}
use Rattle.rule_order.proofs.Firsts.{first_alike, first_of_both}
use Rattle.inherited_rules.specs.Rules.{Breaks, lacks_body, unlike_results, clash, LacksBody, HasUnlikeResults, HasClash, InheritedBreaches}
use Rattle.inherited_rules.specs.Parts.{BreachesOf, IsLowest}

-- ---- types one after another

-- what the first n types break
abbrev pub BreachesBelow : World → ℕ → Breaches
BreachesBelow w n b = (c : ℕ) × (c < n) × BreachesOf w c b

lower_or_last : (c n : ℕ) → c < n + 1 → (c < n) ⊎ (c ≡ n)
lower_or_last c n h = grind (arith, h)

pub next_below : (w : World) (n : ℕ) (a b r : Option Breach) → IsFirst (BreachesBelow w n) a → IsFirst (BreachesOf w n) b → IsEarlier a b r → IsFirst (BreachesBelow w (n + 1)) r
next_below w n a b r before here earlier =
    first_alike (Either (BreachesBelow w n) (BreachesOf w n)) (BreachesBelow w (n + 1)) (λ x. (to x, from x)) r (first_of_both (BreachesBelow w n) (BreachesOf w n) a b r earlier before here)
  where
    to : (x : Breach) → Either (BreachesBelow w n) (BreachesOf w n) x → BreachesBelow w (n + 1) x
    to x h = elim h [ inl u ↦ (u.0, omega (arith, u.1), u.2) | inr u ↦ (n, omega arith, u) ]

    from : (x : Breach) → BreachesBelow w (n + 1) x → Either (BreachesBelow w n) (BreachesOf w n) x
    from x h = elim (lower_or_last h.0 n h.1) [ inl low ↦ inl (h.0, low, h.2) | inr last ↦ inr (subst (λ c. BreachesOf w c x) last h.2) ]

pub all_below : (w : World) (n : ℕ) (r : Option Breach) → length w.types ≤ n → IsFirst (BreachesBelow w n) r → IsFirst (InheritedBreaches w) r
all_below w n r le first = first_alike (BreachesBelow w n) (InheritedBreaches w) (λ x. (to x, from x)) r first
  where
    to : (x : Breach) → BreachesBelow w n x → InheritedBreaches w x
    to x h = let u = h.2 in (h.0, u.0, u.1, u.2, u.3)

    from : (x : Breach) → InheritedBreaches w x → BreachesBelow w n x
    from x h = let lt = slice_get_within w.types h.0 h.1 h.2 in (h.0, omega (arith, lt, le), (h.1, h.2, h.3, h.4))

-- ---- the lowest number

at_least : (w : World) (c rule : ℕ) → Breaks w c rule → 18 ≤ rule
at_least w c rule (lacks_body h) = omega arith
at_least w c rule (unlike_results h) = omega arith
at_least w c rule (clash h) = omega arith

past_bodies : (w : World) (c : ℕ) → (LacksBody w c → ⊥) → (rule : ℕ) → Breaks w c rule → 19 ≤ rule
past_bodies w c none rule (lacks_body h) = absurd (none h)
past_bodies w c none rule (unlike_results h) = omega arith
past_bodies w c none rule (clash h) = omega arith

past_results : (w : World) (c : ℕ) → (LacksBody w c → ⊥) → (HasUnlikeResults w c → ⊥) → (rule : ℕ) → Breaks w c rule → 20 ≤ rule
past_results w c none no_results rule (lacks_body h) = absurd (none h)
past_results w c none no_results rule (unlike_results h) = absurd (no_results h)
past_results w c none no_results rule (clash h) = omega arith

pub lowest_body : (w : World) (c : ℕ) → LacksBody w c → IsLowest w c (Some 18)
lowest_body w c h = (lacks_body h, at_least w c)

pub lowest_results : (w : World) (c : ℕ) → (LacksBody w c → ⊥) → HasUnlikeResults w c → IsLowest w c (Some 19)
lowest_results w c none h = (unlike_results h, past_bodies w c none)

pub lowest_clash : (w : World) (c : ℕ) → (LacksBody w c → ⊥) → (HasUnlikeResults w c → ⊥) → HasClash w c → IsLowest w c (Some 20)
lowest_clash w c none no_results h = (clash h, past_results w c none no_results)

pub none_lowest : (w : World) (c : ℕ) → (LacksBody w c → ⊥) → (HasUnlikeResults w c → ⊥) → (HasClash w c → ⊥) → IsLowest w c None
none_lowest w c none no_results no_clash rule (lacks_body h) = none h
none_lowest w c none no_results no_clash rule (unlike_results h) = no_results h
none_lowest w c none no_results no_clash rule (clash h) = no_clash h
