-- The table of what each method overrides at once, as it is written.
use Rattle.std.proofs.Common.{◌≡◌, ℕ, ◌<◌, Some, None, ◌⊎◌, inl, inr, refl, sym, ap, ◌∙◌, subst, length, List, arith}
use Rattle.std.specs.List.{Contains}
use Rattle.std.proofs.lemmas.Option.{slice_get_within}
use Rattle.shared_maps.specs.Maps.{AreEntries}
use Rattle.class_world.specs.declared.world.World.{World}
use Rattle.class_world.specs.Signatures.{AgreeBelow}
use Rattle.class_world.specs.Overriding as by
use Rattle.class_world.specs.Overriding.{Replaces, MeetIn, AreInstanceMethods, OverridesAtOnce}
use Rattle.class_world.proofs.Words.{same_or_other}
use Rattle.overrides.specs.declared.at_once.TheConstants.{FREE, ASKED, APART}
use Rattle.overrides.specs.Tables.{Rows, AreOfOneSize, IsWritten, value_at}
use Rattle.overrides.specs.AtOnce.{IsTie, IsTied, AreTies, KeepsTies, AreAllTies, IsDeclaredTie}
use Rattle.overrides.specs.Scopes.{IsPlain}
use Rattle.overrides.proofs.Plains.{plain_free}
use Rattle.overrides.proofs.Gains.{size_on}

-- the rows and the keys of instance methods
pub tie_row : (w : World) (t : Rows) (m k : ℕ) → AreTies w t → AreInstanceMethods w m k → m < length t.rows
tie_row w t m k ties are = let lt = slice_get_within w.methods m are.0.0 are.0.1.0 in omega (arith, lt, ties.size.rows)

pub tie_key : (w : World) (t : Rows) (m k : ℕ) → AreTies w t → AreInstanceMethods w m k → k < t.maps.keys
tie_key w t m k ties are = let lt = slice_get_within w.methods k are.1.0 are.1.1.0 in omega (arith, lt, ties.size.keys)

module _ (w : World) (old new : Rows) (m k v : ℕ) (ties : AreTies w old) (size : AreOfOneSize old new) (written : IsWritten old new m k v) where
  pub ties_written : IsTie w m k v → AreTies w new
  ties_written tie = record {
    size = size_on ties.size size;
    each = λ a b u is. elim (same_or_other a m) [
      | inl row ↦ elim (same_or_other b k) [
        | inl key ↦
            let one : Some v ≡ Some u = sym written.here ∙ ap (value_at new m) (sym key) ∙ ap (λ i. value_at new i b) (sym row) ∙ is in
            let same : v ≡ u = cc one in
            subst (λ i. IsTie w i b u) (sym row) (subst (λ i. IsTie w m i u) (sym key) (subst (IsTie w m k) same tie))
        | inr other ↦ ties.each a b u (sym (written.there a b (λ r e. other e)) ∙ is)
      ]
      | inr other ↦ ties.each a b u (sym (written.there a b (λ r e. other r)) ∙ is)
    ];
  }

  pub tied_here : (v ≡ APART → ⊥) → IsTied new m k
  tied_here tie = (v, written.here, tie)

  pub ties_kept : (v ≡ APART → ⊥) ⊎ (value_at old m k ≡ None) → KeepsTies old new
  ties_kept how a b h = elim (same_or_other a m) [
    | inl row ↦ elim (same_or_other b k) [
      | inl key ↦ elim how [
        | inl tied ↦ (v, ap (λ i. value_at new i b) row ∙ ap (value_at new m) key ∙ written.here, tied)
        | inr none ↦
            let never : None ≡ Some h.0 = sym none ∙ ap (value_at old m) (sym key) ∙ ap (λ i. value_at old i b) (sym row) ∙ h.1 in
            absurd (cc never)
      ]
      | inr other ↦ (h.0, written.there a b (λ r e. other e) ∙ h.1, h.2)
    ]
    | inr other ↦ (h.0, written.there a b (λ r e. other r) ∙ h.1, h.2)
  ]

-- what is written is right

pub declared_is : (w : World) (c m k v : ℕ) → IsDeclaredTie w v → Replaces w c m k → AreInstanceMethods w m k → IsTie w m k v
declared_is w c m k v tie r are = record { tied = λ e. by.declared r are; free = λ e. tie.free e c m k r; apart = λ e. absurd (tie.tied e) }

pub met_is : (w : World) (c m k v : ℕ) → MeetIn w c m k → AreInstanceMethods w m k → AgreeBelow w m k → (v ≡ APART → ⊥) → (v ≡ FREE → IsPlain w m) → IsTie w m k v
met_is w c m k v meet are agree tied plain = record {
  tied = λ e. by.inherited meet are agree;
  free = λ e. plain_free w c m k (plain e) meet;
  apart = λ e. absurd (tied e);
}

pub apart_is : (w : World) (m k : ℕ) → (AgreeBelow w m k → ⊥) → IsTie w m k APART
apart_is w m k apart = record { tied = λ e. absurd (e refl); free = λ e. absurd (let never : APART ≡ FREE = e in omega (arith, never)); apart = λ e. apart }

pub asked_ties : ASKED ≡ APART → ⊥
asked_ties e = let never : ASKED ≡ APART = e in omega (arith, never)

pub free_ties : FREE ≡ APART → ⊥
free_ties e = let never : FREE ≡ APART = e in omega (arith, never)

-- a pair that the table has already

pub tied_already : (w : World) (t : Rows) (m k v : ℕ) → AreTies w t → value_at t m k ≡ Some v → AgreeBelow w m k → IsTied t m k
tied_already w t m k v ties is agree = (v, is, λ e. (ties.each m k v is).apart e agree)

-- all pairs are written

pub all_ties : (w : World) (t : Rows) → AreTies w t → ((c m k : ℕ) → Replaces w c m k → AreInstanceMethods w m k → IsTied t m k)
    → ((c m k : ℕ) → MeetIn w c m k → AreInstanceMethods w m k → AgreeBelow w m k → IsTied t m k) → AreAllTies w t
all_ties w t ties declared inherited = record { ties = ties; all = λ m k h. by_case m k h }
  where
    by_case : (m k : ℕ) → OverridesAtOnce w m k → IsTied t m k
    by_case m k (by.declared {c = c} r are) = declared c m k r are
    by_case m k (by.inherited {c = c} meet are agree) = inherited c m k meet are agree

-- ---- the entries of a row

module _ (w : World) (ties : Rows) (m : ℕ) (entries : List (ℕ × ℕ)) (all : AreAllTies w ties) (are : AreEntries (value_at ties m) entries) where
  pub entry_tie : (p : ℕ × ℕ) → Contains entries p → IsTie w m p.0 p.1
  entry_tie p has = all.ties.each m p.0 p.1 ((are.each p.0 p.1).0 has)

  pub tie_entry : (t : ℕ) → OverridesAtOnce w m t → (v : ℕ) × Contains entries (t, v) × (v ≡ APART → ⊥)
  tie_entry t edge = let tie = all.all m t edge in (tie.0, (are.each t tie.0).1 tie.1, tie.2)

-- a class that has two methods from both sides is a type of the world
pub meet_within : (w : World) (c m k : ℕ) → MeetIn w c m k → c < length w.types
meet_within w c m k meet = let class = meet.0.0.1.0 in slice_get_within w.types c class.0 class.1
