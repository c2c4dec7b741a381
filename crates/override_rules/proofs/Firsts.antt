-- The first breach of a set, from the lowest numbers at its nodes.
use Rattle.std.proofs.Common.{◌≡◌, ℕ, ◌+◌, ◌<◌, ◌≤◌, List, Option, None, Some, inl, inr, ◌↔◌, refl, subst, length, Bool, true, false, arith}
use Rattle.std.specs.Prelude.{slice_get, is_some, not}
use Rattle.std.specs.List.{Contains}
use Rattle.std.proofs.lemmas.Option.{slice_get_within}
use Rattle.rule_order.specs.declared.Breach.{Breach}
use Rattle.rule_order.specs.First.{Breaches, Either, IsFirst, IsEarlier}
use Rattle.rule_order.proofs.Firsts.{first_alike, first_of_both}
use Rattle.class_world.specs.declared.world.World.{World}
use Rattle.override_rules.specs.Rules.{OverrideBreaches, declared, inherited}
use Rattle.override_rules.specs.Judged.{IsLowest, breach_of, DeclaredBreaches, InheritedBreaches}
use Rattle.override_rules.proofs.Listed.{contained_at}
use Rattle.override_rules.proofs.Numbers.{low_or_last}

-- the lowest number of the broken rules at a node
pub first_at : (P : ℕ → Type 0) (N : ℕ → Type 0) (node rule : Option ℕ) → ((n : ℕ) → (node ≡ Some n) ↔ N n) → IsLowest P rule → IsFirst (λ b. P b.rule × N b.node) (breach_of node rule)
first_at P N None rule is low = λ b h. let never = (is b.node).1 h.1 in cc never
first_at P N (Some n) None is low = λ b h. low b.rule h.0
first_at P N (Some n) (Some r) is low = (
  (low.0, (is n).0 refl),
  λ b h. let same : n ≡ b.node = let e = (is b.node).1 h.1 in cc e in inr (same, low.1 b.rule h.0),
)

-- what `is_none` answers

pub some_node : (o : Option ℕ) (b : Bool) (n : ℕ) → is_some o ≡ not b → b ≡ true → o ≡ Some n → ⊥
some_node None b n told set e = cc e
some_node (Some x) true n told set e = cc told
some_node (Some x) false n told set e = cc set

pub none_when : (o : Option ℕ) (b : Bool) → is_some o ≡ not b → b ≡ true → o ≡ None
none_when None b told set = refl
none_when (Some x) true told set = absurd (cc told)
none_when (Some x) false told set = absurd (cc set)

-- ---- one set after the other

abbrev pub FirstOf : ℕ → (ℕ → Breaches) → Breaches
FirstOf n F b = (j : ℕ) × (j < n) × F j b

pub first_more : (F : ℕ → Breaches) (n : ℕ) (a b r : Option Breach) → IsFirst (FirstOf n F) a → IsFirst (F n) b → IsEarlier a b r → IsFirst (FirstOf (n + 1) F) r
first_more F n a b r before here is = first_alike (Either (FirstOf n F) (F n)) (FirstOf (n + 1) F)
    (λ x. (
      λ h. elim h [ inl u ↦ (u.0, omega (arith, u.1), u.2) | inr u ↦ (n, omega arith, u) ],
      λ h. elim (low_or_last h.0 n h.1) [ inl lt ↦ inl (h.0, lt, h.2) | inr last ↦ inr (subst (λ j. F j x) last h.2) ],
    )) r (first_of_both (FirstOf n F) (F n) a b r is before here)

-- over the items of a list
abbrev pub ItemOf : List ℕ → (ℕ → Breaches) → ℕ → Breaches
ItemOf xs F j b = (x : ℕ) × (slice_get xs j ≡ Some x) × F x b

pub item_first : (xs : List ℕ) (F : ℕ → Breaches) (j x : ℕ) (o : Option Breach) → slice_get xs j ≡ Some x → IsFirst (F x) o → IsFirst (ItemOf xs F j) o
item_first xs F j x o at = first_alike (F x) (ItemOf xs F j)
    (λ b. (λ h. (x, at, h), λ h. let same : h.0 ≡ x = let e = h.1 in cc (e, at) in subst (λ y. F y b) same h.2)) o

-- all items of a list, and all numbers below one

pub all_items : (xs : List ℕ) (F : ℕ → Breaches) (n : ℕ) (o : Option Breach) → length xs ≤ n → ((x : ℕ) (b : Breach) → F x b → Contains xs x) → IsFirst (FirstOf n (ItemOf xs F)) o → IsFirst (λ b. (x : ℕ) × F x b) o
all_items xs F n o le within = first_alike (FirstOf n (ItemOf xs F)) (λ b. (x : ℕ) × F x b)
    (λ b. (
      λ h. (h.2.0, h.2.2),
      λ h. let at = contained_at xs h.0 (within h.0 b h.1) in (at.0, omega (arith, slice_get_within xs at.0 h.0 at.1, le), (h.0, at.1, h.1)),
    )) o

pub all_below : (F : ℕ → Breaches) (n : ℕ) (o : Option Breach) → ((c : ℕ) (b : Breach) → F c b → c < n) → IsFirst (FirstOf n F) o → IsFirst (λ b. (c : ℕ) × F c b) o
all_below F n o within = first_alike (FirstOf n F) (λ b. (c : ℕ) × F c b) (λ b. (λ h. (h.0, h.2), λ h. (h.0, within h.0 b h.1, h.1))) o

-- ---- the sets of the rules

pub override_first : (w : World) (o : Option Breach) → IsFirst (Either (DeclaredBreaches w) (InheritedBreaches w)) o → IsFirst (OverrideBreaches w) o
override_first w = first_alike (Either (DeclaredBreaches w) (InheritedBreaches w)) (OverrideBreaches w) (λ b. (to b, from b))
  where
    to : (b : Breach) → Either (DeclaredBreaches w) (InheritedBreaches w) b → OverrideBreaches w b
    to b (inl h) = let x = h.1.0 in declared x.2 x.3 x.4 h.1.1.1 h.1.1.2
    to b (inr h) = let x = h.1.0 in inherited x.2 x.3.0 x.3.1 h.1.1.1 h.1.1.2

    from : (b : Breach) → OverrideBreaches w b → Either (DeclaredBreaches w) (InheritedBreaches w) b
    from b (declared {c = c} {m = m} {k = k} {info = info} decl takes breaks at node) = inl (m, ((c, k, decl, takes, breaks), (info, at, node)))
    from b (inherited {c = c} {m = m} {k = k} {info = info} meet agree breaks at node) = inr (c, ((m, k, meet, (agree, breaks)), (info, at, node)))
