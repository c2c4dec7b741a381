-- What the tests of one method over another say.
use mathlib.Core.Bool.{beq}
use Rattle.std.proofs.Common.{◌≡◌, ℕ, ◌<◌, ◌≤◌, List, [], Option, None, Some, Bool, true, false, IsTrue, ◌⊎◌, inl, inr, ◌↔◌, refl, sym, ap, ◌∙◌, subst, arith}
use Rattle.std.specs.Prelude.{slice_get, not, is_some, Result, Ok, Err, IfOk}
use Rattle.java_tree.specs.declared.fault.NoMemory.{NoMemory}
use Rattle.std.specs.List.{Contains}
use Rattle.java_tree.specs.declared.tree.Mod.TheVariants as mods
use Rattle.class_world.specs.declared.world.World.{World}
use Rattle.class_world.specs.declared.world.MethodInfo.{MethodInfo}
use Rattle.class_world.specs.declared.world.JavaType.{JavaType}
use Rattle.class_world.specs.declared.world.JavaType.TheVariants as ty
use Rattle.class_world.specs.Subtypes.{Subtype, through, raw, IsSuperAs}
use Rattle.class_world.specs.Signatures.{IsMethod, AgreeBelow}
use Rattle.seen_methods.specs.Seen.{TellsResult}
use Rattle.method_ties.specs.declared.Meeting.{Meeting}
use Rattle.method_ties.specs.Ties.{AreMeetings}
use Rattle.override_rules.specs.Rules.{Suits, BreaksResult, IsWeaker, ThrowsMore, HasMod, AreOfOneKind, Breaks, result, access_of, throws, final, static}
use Rattle.override_rules.specs.Judged.{IsLowest, HasKnownOwner, AreOfWorld, NamesMore, BreaksPair, BreaksMet}
use Rattle.class_world.specs.Typed.{HaveTypes}
use Rattle.override_rules.proofs.Listed.{contained_at}
use Rattle.override_rules.proofs.Numbers.{UpTo, lowest_alike}
use Rattle.override_rules.proofs.Seen.{one_method}

pub not_told : (r : Bool) (P : Type 0) → IsTrue r ↔ P → r ≡ false → P → ⊥
not_told r P told none p = let yes = told.1 p in cc (yes, none)

pub ok_told : (r : Result Bool NoMemory) (P Q : Type 0) → P ↔ Q → IfOk r (λ b. IsTrue b ↔ P) → IfOk r (λ b. IsTrue b ↔ Q)
ok_told (Ok b) P Q same told = (λ e. same.0 (told.0 e), λ q. told.1 (same.1 q))
ok_told (Err e) P Q same told = tt

-- results

pub breaks_told : (w : World) (c m k : ℕ) (r q : Option JavaType) (b : Bool) → TellsResult w c m (Some r) → TellsResult w c k (Some q) → IsTrue b ↔ Suits w r q → IsTrue (not b) ↔ BreaksResult w c m k
breaks_told w c m k r q true first second told = (
  λ e. absurd (cc e),
  λ h.
      let same_r : h.0 ≡ r = first.1 h.0 h.2 in
      let same_q : h.1 ≡ q = second.1 h.1 h.3 in
      absurd (h.4 (subst (λ x. Suits w x h.1) (sym same_r) (subst (Suits w r) (sym same_q) (told.0 refl)))),
)
breaks_told w c m k r q false first second told = (λ e. (r, q, first.0, second.0, λ s. let yes = told.1 s in cc yes), λ h. refl)

-- throws clauses

pub super_told : (w : World) (t : JavaType) (g : ℕ) (o : Option JavaType) → IsSuperAs w t g o → IsTrue (is_some o) ↔ Subtype w t (ty.Class g [])
super_told w t g None none = (λ e. absurd (cc e), λ h. absurd (none [] h))
super_told w t g (Some u) some = (λ e. through (subst (Subtype w t) some.1.1 some.0) (raw g some.1.0), λ h. refl)

module _ (w : World) (typed : HaveTypes w) where
  pub throws_of_world : (m : ℕ) (info : MethodInfo) (ts : List JavaType) → IsMethod w m info → HasKnownOwner w m → ts ≡ info.throws → AreOfWorld w ts
  throws_of_world m info ts is known same t on =
      let at = contained_at info.throws t (subst (λ l. Contains l t) same on) in
      let own = known info is in
      (own.0.params, typed.throws m at.0 info own.0 t is.0 own.1 at.1)

pub throws_told : (w : World) (m k : ℕ) (i j : MethodInfo) (xs ys : List JavaType) → IsMethod w m i → IsMethod w k j → xs ≡ i.throws → ys ≡ j.throws → NamesMore w xs ys ↔ ThrowsMore w m k
throws_told w m k i j xs ys is_m is_k same_x same_y = (
  λ h. (i, j, is_m, is_k, h.0, subst (λ l. Contains l h.0) same_x h.1, h.2, λ f on. h.3 f (subst (λ l. Contains l f) (sym same_y) on)),
  λ h.
      let first : h.0 ≡ i = one_method w m h.0 i h.2 is_m in
      let second : h.1 ≡ j = one_method w k h.1 j h.3 is_k in
      let throws_i : h.0.throws ≡ xs = ap (λ (x : MethodInfo). x.throws) first ∙ sym same_x in
      let throws_j : h.1.throws ≡ ys = ap (λ (x : MethodInfo). x.throws) second ∙ sym same_y in
      (h.4, subst (λ l. Contains l h.4) throws_i h.5, h.6, λ f on. h.7 f (subst (λ l. Contains l f) (sym throws_j) on)),
)

-- the lowest number of all

module _ (w : World) (c m k : ℕ) where
  pub of_kinds : (a b : Bool) → IsTrue a ↔ HasMod w m mods.Static → IsTrue b ↔ HasMod w k mods.Static → not (beq a b) ≡ false → AreOfOneKind w m k
  of_kinds true true one two e = inl (one.0 refl, two.0 refl)
  of_kinds true false one two e = absurd (cc e)
  of_kinds false true one two e = absurd (cc e)
  of_kinds false false one two e = inr (λ s. let yes = one.1 s in cc yes, λ s. let yes = two.1 s in cc yes)

  pub of_two_kinds : (a b : Bool) → IsTrue a ↔ HasMod w m mods.Static → IsTrue b ↔ HasMod w k mods.Static → not (beq a b) ≡ true → AreOfOneKind w m k → ⊥
  of_two_kinds true true one two e kind = cc e
  of_two_kinds true false one two e (inl both) = let yes = two.1 both.1 in cc yes
  of_two_kinds true false one two e (inr none) = none.0 (one.0 refl)
  of_two_kinds false true one two e (inl both) = let yes = one.1 both.0 in cc yes
  of_two_kinds false true one two e (inr none) = none.1 (two.0 refl)
  of_two_kinds false false one two e kind = cc e

  pub lowest_static : (AreOfOneKind w m k → ⊥) → IsLowest (Breaks w c m k) (Some 17)
  lowest_static apart = (static apart, λ q b. go q b)
    where
      go : (q : ℕ) → Breaks w c m k q → 17 ≤ q
      go q (result kind h) = absurd (apart kind)
      go q (access_of kind h) = absurd (apart kind)
      go q (throws kind h) = absurd (apart kind)
      go q (final kind h) = absurd (apart kind)
      go q (static h) = omega arith

  module _ (one : AreOfOneKind w m k) where
    pub lowest_result : BreaksResult w c m k → IsLowest (Breaks w c m k) (Some 13)
    lowest_result here = (result one here, λ q b. go q b)
      where
        go : (q : ℕ) → Breaks w c m k q → 13 ≤ q
        go q (result kind h) = omega arith
        go q (access_of kind h) = omega arith
        go q (throws kind h) = omega arith
        go q (final kind h) = omega arith
        go q (static h) = omega arith

    module _ (no_result : BreaksResult w c m k → ⊥) where
      pub lowest_access : IsWeaker w m k → IsLowest (Breaks w c m k) (Some 14)
      lowest_access here = (access_of one here, λ q b. go q b)
        where
          go : (q : ℕ) → Breaks w c m k q → 14 ≤ q
          go q (result kind h) = absurd (no_result h)
          go q (access_of kind h) = omega arith
          go q (throws kind h) = omega arith
          go q (final kind h) = omega arith
          go q (static h) = omega arith

      module _ (no_access : IsWeaker w m k → ⊥) where
        pub lowest_throws : ThrowsMore w m k → IsLowest (Breaks w c m k) (Some 15)
        lowest_throws here = (throws one here, λ q b. go q b)
          where
            go : (q : ℕ) → Breaks w c m k q → 15 ≤ q
            go q (result kind h) = absurd (no_result h)
            go q (access_of kind h) = absurd (no_access h)
            go q (throws kind h) = omega arith
            go q (final kind h) = omega arith
            go q (static h) = omega arith

        module _ (no_throws : ThrowsMore w m k → ⊥) where
          pub lowest_final : HasMod w k mods.Final → IsLowest (Breaks w c m k) (Some 16)
          lowest_final here = (final one here, λ q b. go q b)
            where
              go : (q : ℕ) → Breaks w c m k q → 16 ≤ q
              go q (result kind h) = absurd (no_result h)
              go q (access_of kind h) = absurd (no_access h)
              go q (throws kind h) = absurd (no_throws h)
              go q (final kind h) = omega arith
              go q (static h) = absurd (h one)

          pub lowest_nothing : (HasMod w k mods.Final → ⊥) → IsLowest (Breaks w c m k) None
          lowest_nothing no_final q (result kind h) = no_result h
          lowest_nothing no_final q (access_of kind h) = no_access h
          lowest_nothing no_final q (throws kind h) = no_throws h
          lowest_nothing no_final q (final kind h) = no_final h
          lowest_nothing no_final q (static h) = h one

-- ---- two methods that a type has from both sides

kind_of_rule : (w : World) (c m k q : ℕ) → Breaks w c m k q → (q ≡ 17) ⊎ AreOfOneKind w m k
kind_of_rule w c m k q (result kind h) = inr kind
kind_of_rule w c m k q (access_of kind h) = inr kind
kind_of_rule w c m k q (throws kind h) = inr kind
kind_of_rule w c m k q (final kind h) = inr kind
kind_of_rule w c m k q (static h) = inl refl

kinds_of_static : (w : World) (c m k q : ℕ) → Breaks w c m k q → q ≡ 17 → AreOfOneKind w m k → ⊥
kinds_of_static w c m k q (result kind h) e = absurd (omega (arith, e))
kinds_of_static w c m k q (access_of kind h) e = absurd (omega (arith, e))
kinds_of_static w c m k q (throws kind h) e = absurd (omega (arith, e))
kinds_of_static w c m k q (final kind h) e = absurd (omega (arith, e))
kinds_of_static w c m k q (static h) e = h

module _ (w : World) (c m k : ℕ) where
  pub pair_some : (r : ℕ) → IsLowest (Breaks w c m k) (Some r) → (r ≡ 17) ⊎ AgreeBelow w m k → IsLowest (BreaksPair w c m k) (Some r)
  pair_some r low (inl e) = ((inr (kinds_of_static w c m k r low.0 e), low.0), λ q h. low.1 q h.1)
  pair_some r low (inr agree) = ((inl agree, low.0), λ q h. low.1 q h.1)

  pub pair_differs : (r : ℕ) → IsLowest (Breaks w c m k) (Some r) → (r ≡ 17 → ⊥) → (AgreeBelow w m k → ⊥) → IsLowest (BreaksPair w c m k) None
  pair_differs r low other differ = λ q h. elim (h.0) [
    | inl agree ↦ differ agree
    | inr apart ↦ elim (kind_of_rule w c m k r low.0) [ inl e ↦ other e | inr one ↦ apart one ]
  ]

-- one pair of a list of them
abbrev pub PairOf : World → ℕ → List Meeting → ℕ → ℕ → Type 0
PairOf w c pairs j r = (p : Meeting) × (slice_get pairs j ≡ Some p) × BreaksPair w c p.lower p.upper r

pub pair_here : (w : World) (c : ℕ) (pairs : List Meeting) (j : ℕ) (p : Meeting) (o : Option ℕ) → slice_get pairs j ≡ Some p → IsLowest (BreaksPair w c p.lower p.upper) o → IsLowest (PairOf w c pairs j) o
pair_here w c pairs j p o at h = lowest_alike (BreaksPair w c p.lower p.upper) (PairOf w c pairs j) o
    (λ r. (λ h. (p, at, h), λ h. let e = h.1 in let same : h.0 ≡ p = cc (e, at) in subst (λ (x : Meeting). BreaksPair w c x.lower x.upper r) same h.2)) h

pub pairs_all : (w : World) (c : ℕ) (pairs : List Meeting) (n : ℕ) (o : Option ℕ) → AreMeetings w c pairs → ((j : ℕ) (p : Meeting) → slice_get pairs j ≡ Some p → (j < n) × Contains pairs p)
    → IsLowest (UpTo n (PairOf w c pairs)) o → IsLowest (BreaksMet w c) o
pairs_all w c pairs n o are within low = lowest_alike (UpTo n (PairOf w c pairs)) (BreaksMet w c) o
    (λ r. (
      λ h. let p = h.2.0 in (p.lower, p.upper, (are p.lower p.upper).0 (within h.0 p h.2.1).1, h.2.2),
      λ h.
          let at = contained_at pairs (record { lower = h.0; upper = h.1 }) ((are h.0 h.1).1 h.2) in
          (at.0, (within at.0 (record { lower = h.0; upper = h.1 }) at.1).0, (record { lower = h.0; upper = h.1 }, at.1, h.3)),
    )) low
