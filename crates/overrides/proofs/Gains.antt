-- Steps that add to the rows of a table.
use Rattle.std.proofs.Common.{◌≡◌, ℕ, ◌+◌, ◌<◌, ◌≤◌, List, Bool, true, false, Option, Some, None, ◌⊎◌, inl, inr, refl, sym, ap, ◌∙◌, subst, length, arith}
use Rattle.std.specs.Prelude.{◌==◌, ◌||◌, slice_get}
use Rattle.std.specs.List.{Contains}
use Rattle.std.specs.Option.{option_or}
use Rattle.std.proofs.lemmas.Bool.{cond-false, cond-true, eq-eqb, ne_eqb}
use Rattle.std.proofs.lemmas.Option.{slice_get_within}
use Rattle.class_world.specs.declared.world.World.{World}
use Rattle.class_world.specs.Overriding as by
use Rattle.class_world.specs.Overriding.{OverridesAtOnce, Overriding}
use Rattle.class_world.proofs.Words.{same_or_other}
use Rattle.overrides.specs.Tables.{Rows, IsOfSize, AreOfOneSize, IsUnited, Has, HasRow, Lacks, given, value_at}
use Rattle.overrides.specs.AtOnce.{IsFree}
use Rattle.overrides.specs.Rounds.{Grows, IsDerived, IsStep, IsJoined}
use Rattle.overrides.proofs.Places.{contains_at, numbers_more}
use Rattle.overrides.proofs.Belows.{overriding_within}

-- ---- steps one after another

pub step_none : (t : Rows) → IsStep t t false
step_none t = record { grows = λ m k h. h; gains = λ e. absurd (cc e); same = λ e. refl }

pub step_on : {a b c : Rows} {x : Bool} → IsStep a b x → IsStep b c true → IsStep a c true
step_on {a = a} {b = b} {c = c} first second =
    let gains = second.gains refl in
    record {
      grows = λ m k h. second.grows m k (first.grows m k h);
      gains = λ e. (gains.0, gains.1, λ h. gains.2 (first.grows gains.0 gains.1 h), gains.3);
      same = λ e. absurd (cc e);
    }

pub step_still : {a b c : Rows} {x : Bool} → IsStep a b x → IsStep b c false → IsStep a c x
step_still {a = a} {b = b} {c = c} {x = x} first second = subst (λ t. IsStep a t x) (sym (second.same refl)) first

pub step_or : {a b c : Rows} (x y : Bool) → IsStep a b x → IsStep b c y → IsStep a c (x || y)
step_or true true first second = step_on first second
step_or true false first second = step_still first second
step_or false true first second = step_on first second
step_or false false first second = step_still first second

pub same_size : {n : ℕ} {old new : Rows} → IsOfSize n old → IsOfSize n new → AreOfOneSize old new
same_size old new = record { rows = new.rows ∙ sym old.rows; keys = new.keys ∙ sym old.keys }

pub size_on : {n : ℕ} {old new : Rows} → IsOfSize n old → AreOfOneSize old new → IsOfSize n new
size_on old same = record { rows = same.rows ∙ old.rows; keys = same.keys ∙ old.keys }

-- ---- two rows united

or_left : (o p : Option ℕ) (v : ℕ) → o ≡ Some v → option_or o p ≡ Some v
or_left o p v is = ap (λ x. option_or x p) is

or_right : (o p : Option ℕ) (v : ℕ) → p ≡ Some v → (u : ℕ) × (option_or o p ≡ Some u)
or_right None p v is = (v, is)
or_right (Some u) p v is = (u, refl)

or_either : (o p : Option ℕ) (v : ℕ) → option_or o p ≡ Some v → (o ≡ Some v) ⊎ (p ≡ Some v)
or_either None p v is = inr is
or_either (Some u) p v is = inl is

module _ (old new : Rows) (m t : ℕ) (both : IsUnited old new m t) where
  united_key : Has new m t
  united_key = (0, both.row t ∙ cond-true (t == t) (Some 0) (option_or (value_at old m t) (given old m t t)) (eq-eqb t t refl))

  -- a key other than t
  united_other : (k : ℕ) → (k ≡ t → ⊥) → value_at new m k ≡ option_or (value_at old m k) (given old m t k)
  united_other k other = both.row k ∙ cond-false (k == t) (Some 0) (option_or (value_at old m k) (given old m t k)) (ne_eqb k t other)

  united_grows : Grows old new
  united_grows a b h = elim (same_or_other a m) [
    | inl row ↦ elim (same_or_other b t) [
      | inl key ↦ subst (λ i. Has new i b) (sym row) (subst (Has new m) (sym key) united_key)
      | inr other ↦ subst (λ i. Has new i b) (sym row) (h.0, united_other b other ∙ or_left (value_at old m b) (given old m t b) h.0 (ap (λ i. value_at old i b) (sym row) ∙ h.1))
    ]
    | inr other ↦ (h.0, both.there a b other ∙ h.1)
  ]

  -- what the row of t has but for m
  united_above : (k : ℕ) → Has old t k → (m ≡ k → ⊥) → Has new m k
  united_above k h other = elim (same_or_other k t) [
    | inl key ↦ subst (Has new m) (sym key) united_key
    | inr apart ↦
        let more = or_right (value_at old m k) (given old m t k) h.0 (cond-false (k == m) None (value_at old t k) (ne_eqb k m (λ e. other (sym e))) ∙ h.1) in
        (more.0, united_other k apart ∙ more.1)
  ]

  pub united_joined : (w : World) → IsJoined w old new m t
  united_joined w = record { has = united_key; all = λ k h other agree. united_above k h other }

  pub united_step : Lacks old m t → IsStep old new true
  united_step lacks = record {
    grows = united_grows;
    gains = λ e. (m, lacks.0, lacks.1, elim lacks.2 [ inl key ↦ subst (Has new m) (sym key) united_key | inr above ↦ united_above lacks.0 above.0 above.1 ]);
    same = λ e. absurd (cc e);
  }

  united_row : (w : World) → IsDerived w old → OverridesAtOnce w m t → IsFree w m t → (b : ℕ) → Has new m b → Overriding w m b
  united_row w derived edge free b h = elim (same_or_other b t) [
    | inl key ↦ subst (Overriding w m) (sym key) (by.at_once edge)
    | inr apart ↦ elim (or_either (value_at old m b) (given old m t b) h.0 (sym (united_other b apart) ∙ h.1)) [
      | inl own ↦ derived.sound m b (h.0, own)
      | inr above ↦ elim (same_or_other b m) [
        | inl itself ↦ let never : None ≡ Some h.0 = sym (cond-true (b == m) None (value_at old t b) (eq-eqb b m itself)) ∙ above in absurd (cc never)
        | inr other ↦
            let up = derived.sound t b (h.0, sym (cond-false (b == m) None (value_at old t b) (ne_eqb b m other)) ∙ above) in
            by.through (by.at_once edge) up (λ e. other (sym e)) (free b up)
      ]
    ]
  ]

  pub united_derived : (w : World) → IsDerived w old → AreOfOneSize old new → OverridesAtOnce w m t → IsFree w m t → IsDerived w new
  united_derived w derived size edge free = record {
    size = size_on derived.size size;
    sound = λ a b h. elim (same_or_other a m) [
      | inl row ↦ subst (λ i. Overriding w i b) (sym row) (united_row w derived edge free b (h.0, ap (λ i. value_at new i b) (sym row) ∙ h.1))
      | inr other ↦ derived.sound a b (h.0, sym (both.there a b other) ∙ h.1)
    ];
  }

-- all is there
pub whole_joined : (w : World) (t : Rows) (m x : ℕ) → HasRow t m x → IsJoined w t t m x
whole_joined w t m x whole = record { has = whole.key; all = λ k h other agree. whole.row k h other }

-- ---- what is in the rows

pub added_derived : (w : World) (old new : Rows) (m k : ℕ) → IsDerived w old → AreOfOneSize old new → ((a b : ℕ) → Has new a b → Has old a b ⊎ ((a ≡ m) × (b ≡ k))) → Overriding w m k → IsDerived w new
added_derived w old new m k derived size only up = record {
  size = size_on derived.size size;
  sound = λ a b h. elim (only a b h) [
    | inl was ↦ derived.sound a b was
    | inr new ↦ subst (λ i. Overriding w i b) (sym new.0) (subst (Overriding w m) (sym new.1) up)
  ];
}

pub derived_row : (w : World) (t : Rows) (m k : ℕ) → IsDerived w t → Overriding w m k → m < length t.rows
derived_row w t m k derived up = let lt = (overriding_within up).0 in omega (arith, lt, derived.size.rows)

pub derived_key : (w : World) (t : Rows) (m k : ℕ) → IsDerived w t → Overriding w m k → k < t.maps.keys
derived_key w t m k derived up = let lt = (overriding_within up).1 in omega (arith, lt, derived.size.keys)

-- ---- a pass over places, each of which may add to the rows: where nothing was added, all is as it was, and what is wanted of a place holds of each so far

pub record IsPass (w : World) (start now : Rows) (added : Bool) (P : Rows → ℕ → Type 0) (i : ℕ) : Type 0 where
  pub derived : IsDerived w now
  pub step : IsStep start now added
  pub done : added ≡ false → (j : ℕ) → j < i → P now j

module _ (w : World) (start : Rows) (P : Rows → ℕ → Type 0) where
  pub pass_begins : (now : Rows) (added : Bool) → IsDerived w now → IsStep start now added → IsPass w start now added P 0
  pass_begins now added derived step = record { derived = derived; step = step; done = λ e j lt. absurd (omega (arith, lt)) }

  module _ (now : Rows) (added : Bool) (i : ℕ) (pass : IsPass w start now added P i) where
    -- the place added something
    pub pass_adds : (new : Rows) (r more : Bool) → IsDerived w new → IsStep now new r → r ≡ true → more ≡ true → IsPass w start new more P (i + 1)
    pass_adds new r more derived step told is = record {
      derived = derived;
      step = subst (IsStep start new) (sym is) (step_on pass.step (subst (IsStep now new) told step));
      done = λ e. absurd (cc (is, e));
    }

    -- it added nothing
    pub pass_stays : (new : Rows) (r more : Bool) → IsDerived w new → IsStep now new r → (r ≡ false → P new i) → r ≡ false → more ≡ added → IsPass w start new more P (i + 1)
    pass_stays new r more derived step here told is = record {
      derived = derived;
      step = subst (IsStep start new) (sym is) (step_still pass.step (subst (IsStep now new) told step));
      done = λ e. numbers_more (P new) i (λ j lt. subst (λ t. P t j) (sym (step.same told)) (pass.done (sym is ∙ e) j lt)) (here told);
    }

-- what is wanted of the item at a place
abbrev pub AtPlace : {A : Type 0} → List A → (Rows → A → Type 0) → Rows → ℕ → Type 0
AtPlace {A = A} items P t j = (x : A) → slice_get items j ≡ Some x → P t x

pub at_place : {A : Type 0} (items : List A) (P : Rows → A → Type 0) (t : Rows) (i : ℕ) (x : A) → slice_get items i ≡ Some x → P t x → AtPlace items P t i
at_place items P t i x at here y is =
    let one : Some x ≡ Some y = sym at ∙ is in
    let same : x ≡ y = cc one in
    subst (P t) same here

pub at_places : {A : Type 0} (items : List A) (P : Rows → A → Type 0) (t : Rows) (i : ℕ) → ((j : ℕ) → j < i → AtPlace items P t j) → length items ≤ i → (x : A) → Contains items x → P t x
at_places items P t i before done x has =
    let at = contains_at items x has in
    let lt = slice_get_within items at.0 x at.1 in
    before at.0 (omega (arith, lt, done)) x at.1
