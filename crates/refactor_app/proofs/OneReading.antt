-- Files, whose contents are told, hold one list of texts or stop the reading at one file; and which reads may fail.
use Rattle.std.proofs.Common.{◌≡◌, ◌≢◌, ℕ, zero, suc, ◌+◌, ◌<◌, ◌≤◌, inl, inr, ◌↔◌, List, [], ◌∷◌, length, Some, refl, sym, ◌∙◌, ap, subst, arith}
use Rattle.std.proofs.lemmas.Bool.{cases_order}
use Rattle.tool_files.specs.Told.{Look}
use Rattle.source_files.specs.Held.{AreHeld, Stop, StopsAt, StopsHere, HasRoom, Missing, Failed, TooLarge, TooMuch}

module _ (look : Look) where
  one_text : (name x y : List ℕ) → look name ≡ Some x → look name ≡ Some y → x ≡ y
  one_text name x y e f = let same = sym e ∙ f in cc

  -- ---- at one file

  here_or_past : (before : ℕ) (name text : List ℕ) (s : Stop) → look name ≡ Some text → HasRoom before text → StopsHere (Some look) before name s → s ≡ Failed
  here_or_past before name text Missing e room h = absurd (let both = sym e ∙ h in cc)
  here_or_past before name text Failed e room h = refl
  here_or_past before name text TooLarge e room (x, f, large) =
      let size = ap length (one_text name text x e f) in absurd (omega (arith, size, room.0, large))
  here_or_past before name text TooMuch e room (x, f, low, much) =
      let size = ap length (one_text name text x e f) in absurd (omega (arith, size, room.1, much))

  one_here : (before : ℕ) (name : List ℕ) (s t : Stop) → StopsHere (Some look) before name s → StopsHere (Some look) before name t → s ≢ Failed → t ≢ Failed → s ≡ t
  one_here before name Failed t g h no_fault no_other = absurd (no_fault refl)
  one_here before name Missing Failed g h no_fault no_other = absurd (no_other refl)
  one_here before name TooLarge Failed g h no_fault no_other = absurd (no_other refl)
  one_here before name TooMuch Failed g h no_fault no_other = absurd (no_other refl)
  one_here before name Missing Missing g h no_fault no_other = refl
  one_here before name TooLarge TooLarge g h no_fault no_other = refl
  one_here before name TooMuch TooMuch g h no_fault no_other = refl
  one_here before name Missing TooLarge g (x, f, large) no_fault no_other = absurd (let both = sym g ∙ f in cc)
  one_here before name Missing TooMuch g (x, f, low, much) no_fault no_other = absurd (let both = sym g ∙ f in cc)
  one_here before name TooLarge Missing (x, f, large) h no_fault no_other = absurd (let both = sym h ∙ f in cc)
  one_here before name TooMuch Missing (x, f, low, much) h no_fault no_other = absurd (let both = sym h ∙ f in cc)
  one_here before name TooLarge TooMuch (x, e, large) (y, f, low, much) no_fault no_other =
      let size = ap length (one_text name x y e f) in absurd (omega (arith, size, large, low))
  one_here before name TooMuch TooLarge (x, e, low, much) (y, f, large) no_fault no_other =
      let size = ap length (one_text name x y e f) in absurd (omega (arith, size, large, low))

  -- a file that is there may fail to be read
  there : (before : ℕ) (name : List ℕ) (s : Stop) → s ≢ Missing → StopsHere (Some look) before name s → StopsHere (Some look) before name Failed
  there before name Missing is h = absurd (is refl)
  there before name Failed is h = h
  there before name TooLarge is (x, f, large) = (x, f)
  there before name TooMuch is (x, f, low, much) = (x, f)

  -- ---- at one of many

  -- behind a text, which is the same
  behind : (before : ℕ) (names : List (List ℕ)) (x y : List ℕ) (k : ℕ) (s : Stop) → y ≡ x → StopsAt (Some look) (before + length y) names k s → StopsAt (Some look) (before + length x) names k s
  behind before names x y k s e h = subst (λ (z : List ℕ). StopsAt (Some look) (before + length z) names k s) e h

  pub held_or_stops : (before : ℕ) (names texts : List (List ℕ)) (k : ℕ) (s : Stop) → AreHeld (Some look) before names texts → StopsAt (Some look) before names k s → s ≡ Failed
  held_or_stops before [] texts k s h stops = absurd stops
  held_or_stops before (n ∷ ns) [] k s h stops = absurd h
  held_or_stops before (n ∷ ns) (x ∷ xs) zero s (e, room, more) stops = here_or_past before n x s e room stops
  held_or_stops before (n ∷ ns) (x ∷ xs) (suc k) s (e, room, more) (y, f, room', stops) =
      held_or_stops (before + length x) ns xs k s more (behind before ns x y k s (one_text n y x f e) stops)

  pub one_held : (before : ℕ) (names xs ys : List (List ℕ)) → AreHeld (Some look) before names xs → AreHeld (Some look) before names ys → xs ≡ ys
  one_held before [] xs ys g h = g ∙ sym h
  one_held before (n ∷ ns) [] ys g h = absurd g
  one_held before (n ∷ ns) (x ∷ xs) [] g h = absurd h
  one_held before (n ∷ ns) (x ∷ xs) (y ∷ ys) (e, room, more) (f, room', also) =
      let same = one_text n y x f e in
      let rest = one_held (before + length x) ns xs ys more (subst (λ (z : List ℕ). AreHeld (Some look) (before + length z) ns ys) same also) in
      rw (same, rest) refl

  -- the reading goes past each file before it stops, so only a fault stops it there
  pub no_stop_before : (before : ℕ) (names : List (List ℕ)) (j k : ℕ) (s t : Stop) → StopsAt (Some look) before names j s → StopsAt (Some look) before names k t → j < k → s ≡ Failed
  no_stop_before before [] j k s t g h less = absurd g
  no_stop_before before (n ∷ ns) zero zero s t g h less = absurd (omega (arith, less))
  no_stop_before before (n ∷ ns) zero (suc k) s t g (y, f, room, stops) less = here_or_past before n y s f room g
  no_stop_before before (n ∷ ns) (suc j) zero s t g h less = absurd (omega (arith, less))
  no_stop_before before (n ∷ ns) (suc j) (suc k) s t (x, e, room, g) (y, f, room', h) less =
      no_stop_before (before + length x) ns j k s t g (behind before ns x y k t (one_text n y x f e) h) (omega (arith, less))

  stops_as : (before : ℕ) (names : List (List ℕ)) (k : ℕ) (s t : Stop) → StopsAt (Some look) before names k s → StopsAt (Some look) before names k t → s ≢ Failed → t ≢ Failed → s ≡ t
  stops_as before [] k s t g h a b = absurd g
  stops_as before (n ∷ ns) zero s t g h a b = one_here before n s t g h a b
  stops_as before (n ∷ ns) (suc k) s t (x, e, room, g) (y, f, room', h) a b =
      stops_as (before + length x) ns k s t g (behind before ns x y k t (one_text n y x f e) h) a b

  pub one_stop : (before : ℕ) (names : List (List ℕ)) (j k : ℕ) (s t : Stop) → StopsAt (Some look) before names j s → StopsAt (Some look) before names k t → s ≢ Failed → t ≢ Failed
      → (j ≡ k) × (s ≡ t)
  one_stop before names j k s t g h a b = elim (cases_order j k) [
    | inl same ↦ (same, stops_as before names k s t (subst (λ (i : ℕ). StopsAt (Some look) before names i s) same g) h a b)
    | inr (inl less) ↦ absurd (a (no_stop_before before names j k s t g h less))
    | inr (inr more) ↦ absurd (b (no_stop_before before names k j t s h g more))
  ]

  -- ---- faults

  fails_at : (before : ℕ) (names : List (List ℕ)) (k : ℕ) (s : Stop) → s ≢ Missing → StopsAt (Some look) before names k s → StopsAt (Some look) before names k Failed
  fails_at before [] k s is h = absurd h
  fails_at before (n ∷ ns) zero s is h = there before n s is h
  fails_at before (n ∷ ns) (suc k) s is (x, e, room, h) = (x, e, room, fails_at (before + length x) ns k s is h)

  fails_before : (before : ℕ) (names : List (List ℕ)) (j k : ℕ) (s : Stop) → StopsAt (Some look) before names j s → k < j → StopsAt (Some look) before names k Failed
  fails_before before [] j k s h less = absurd h
  fails_before before (n ∷ ns) zero k s h less = absurd (omega (arith, less))
  fails_before before (n ∷ ns) (suc j) zero s (x, e, room, h) less = (x, e)
  fails_before before (n ∷ ns) (suc j) (suc k) s (x, e, room, h) less = (x, e, room, fails_before (before + length x) ns j k s h (omega (arith, less)))

  fails_held : (before : ℕ) (names texts : List (List ℕ)) (k : ℕ) → AreHeld (Some look) before names texts → k < length names → StopsAt (Some look) before names k Failed
  fails_held before [] texts k h less = absurd (omega (arith, less))
  fails_held before (n ∷ ns) [] k h less = absurd h
  fails_held before (n ∷ ns) (x ∷ xs) zero (e, room, h) less = (x, e)
  fails_held before (n ∷ ns) (x ∷ xs) (suc k) (e, room, h) less = (x, e, room, fails_held (before + length x) ns xs k h (omega (arith, less)))

  fails_low : (before : ℕ) (names : List (List ℕ)) (k : ℕ) (s : Stop) → StopsAt (Some look) before names k s → k < length names
  fails_low before [] k s h = absurd h
  fails_low before (n ∷ ns) zero s h = omega arith
  fails_low before (n ∷ ns) (suc k) s (x, e, room, h) = let less = fails_low (before + length x) ns k s h in omega (arith, less)

  missing_fails : (before : ℕ) (names : List (List ℕ)) (k : ℕ) → StopsAt (Some look) before names k Missing → StopsAt (Some look) before names k Failed → ⊥
  missing_fails before [] k g h = g
  missing_fails before (n ∷ ns) zero g (x, e) = absurd (let both = sym g ∙ e in cc)
  missing_fails before (n ∷ ns) (suc k) (x, e, room, g) (y, f, room', h) =
      missing_fails (before + length x) ns k g (behind before ns x y k Failed (one_text n y x f e) h)

  pub faults_missing : (names : List (List ℕ)) (j k : ℕ) → StopsAt (Some look) 0 names j Missing → StopsAt (Some look) 0 names k Failed ↔ k < j
  faults_missing names j k g = (
    λ h. elim (cases_order j k) [
      | inl same ↦ absurd (missing_fails 0 names k (subst (λ (i : ℕ). StopsAt (Some look) 0 names i Missing) same g) h)
      | inr (inl less) ↦ absurd (let is = no_stop_before 0 names j k Missing Failed g h less in cc)
      | inr (inr more) ↦ more
    ],
    λ less. fails_before 0 names j k Missing g less,
  )

  pub faults_large : (names : List (List ℕ)) (j k : ℕ) (s : Stop) → s ≢ Missing → s ≢ Failed → StopsAt (Some look) 0 names j s → StopsAt (Some look) 0 names k Failed ↔ k ≤ j
  faults_large names j k s there read g = (
    λ h. elim (cases_order j k) [
      | inl same ↦ omega (arith, same)
      | inr (inl less) ↦ absurd (read (no_stop_before 0 names j k s Failed g h less))
      | inr (inr more) ↦ omega (arith, more)
    ],
    λ low. elim (cases_order j k) [
      | inl same ↦ subst (λ (i : ℕ). StopsAt (Some look) 0 names i Failed) same (fails_at 0 names j s there g)
      | inr (inl less) ↦ absurd (omega (arith, less, low))
      | inr (inr more) ↦ fails_before 0 names j k s g more
    ],
  )

  pub faults_held : (names texts : List (List ℕ)) (k : ℕ) → AreHeld (Some look) 0 names texts → StopsAt (Some look) 0 names k Failed ↔ k < length names
  faults_held names texts k h = (λ g. fails_low 0 names k Failed g, λ less. fails_held 0 names texts k h less)
