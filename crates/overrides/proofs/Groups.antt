-- The lists of the numbers of each label.
use Rattle.std.proofs.Common.{◌≡◌, ℕ, ◌+◌, ◌<◌, ◌≤◌, zero, suc, List, [], ◌∷◌, ◌++◌, Some, ◌⊎◌, ◌↔◌, inl, inr, refl, sym, ap, ◌∙◌, subst, length, take, get_or, append_assoc, arith}
use Rattle.std.specs.Prelude.{slice_get, slice_set, replicate}
use Rattle.std.specs.List.{Contains}
use Rattle.std.specs.List.Sorted.{IsStrictlyIncreasing}
use Rattle.std.proofs.lemmas.Option.{slice_get_within, get_or_from_slice_get}
use Rattle.std.proofs.lemmas.List.{append-nil, take_more, take_all, length_push, length-replicate, get_or_append_left}
use Rattle.std.proofs.lemmas.Bool.{cases_lt}
use Rattle.std.proofs.lemmas.List.Elements.{Contains-append_left, Contains-append_right, Contains-append_cases, Contains-push, Contains-push_cases, Contains-get_or}
use Rattle.class_world.proofs.Substs.{there_is}
use Rattle.class_world.proofs.Words.{set_here, set_there, same_or_other, length_set}
use Rattle.overrides.proofs.Places.{contains_at, at_contains, low_or_last}
use Rattle.overrides.specs.Families.{IsListed, AreGroups, IsRelabelled, AreFamilies}

-- one more at the end

at_last : {A : Type 0} (xs : List A) (x : A) → slice_get (xs ++ x ∷ []) (length xs) ≡ Some x
at_last [] x = refl
at_last (y ∷ ys) x = at_last ys x

first_or_end : {A : Type 0} (xs : List A) (x y : A) (k : ℕ) → slice_get (xs ++ x ∷ []) k ≡ Some y → (slice_get xs k ≡ Some y) ⊎ ((y ≡ x) × (k ≡ length xs))
first_or_end [] x y zero e = let h : x ≡ y = cc e in inr (sym h, refl)
first_or_end [] x y (suc k) e = absurd (cc e)
first_or_end (z ∷ zs) x y zero e = inl e
first_or_end (z ∷ zs) x y (suc k) e = elim (first_or_end zs x y k e) [ inl h ↦ inl h | inr h ↦ inr (h.0, ap suc h.1) ]

-- ---- the numbers of one label get another

-- of the numbers that move, so many have the new label, and stand in its list
pub record IsMoving (old new : List ℕ) (members now : List (List ℕ)) (from into : ℕ) (moved row : List ℕ) (i : ℕ) : Type 0 where
  pub size : length new ≡ length old
  pub lists : length now ≡ length members
  pub set : (j m : ℕ) → j < i → slice_get moved j ≡ Some m → slice_get new m ≡ Some into
  pub kept : (m : ℕ) → (slice_get new m ≡ slice_get old m) ⊎ ((slice_get new m ≡ Some into) × (slice_get old m ≡ Some from))
  pub gone : slice_get now from ≡ Some []
  pub joined : slice_get now into ≡ Some (row ++ take i moved)
  pub others : (l : ℕ) → (l ≡ from → ⊥) → (l ≡ into → ⊥) → slice_get now l ≡ slice_get members l

module _ (old : List ℕ) (members : List (List ℕ)) (from into : ℕ) (moved row : List ℕ) (groups : AreGroups old members) (two : from ≡ into → ⊥)
    (is_moved : slice_get members from ≡ Some moved) (is_row : slice_get members into ≡ Some row) where
  pub moving_begins : IsMoving old old members (slice_set members from []) from into moved row (0)
  moving_begins = record {
    size = refl;
    lists = length_set members from [];
    set = λ j m lt. absurd (omega (arith, lt));
    kept = λ m. inl refl;
    gone = set_here members from [] (slice_get_within members from moved is_moved);
    joined = set_there members from into [] two ∙ is_row ∙ ap (λ r. Some r) (sym (append-nil row));
    others = λ l not_from not_into. set_there members from l [] (λ e. not_from (sym e));
  }

  -- a number that moves had the old label
  moving_at : (j m : ℕ) → slice_get moved j ≡ Some m → slice_get old m ≡ Some from
  moving_at j m at = (groups.each m from).1 (moved, is_moved, at_contains moved m j at)

  module _ (new : List ℕ) (now : List (List ℕ)) (i m : ℕ) (moving : IsMoving old new members now from into moved row i) (at : slice_get moved i ≡ Some m) where
    pub moving_label : m < length new
    moving_label = let lt = slice_get_within old m from (moving_at i m at) in omega (arith, lt, moving.size)

    pub moving_next : IsMoving old (slice_set new m into) members (slice_set now into ((row ++ take i moved) ++ m ∷ [])) from into moved row (i + 1)
    moving_next = record {
      size = length_set new m into ∙ moving.size;
      lists = length_set now into _ ∙ moving.lists;
      set = λ j x lt is. elim (low_or_last j i lt) [
        | inl low ↦ elim (same_or_other m x) [
          | inl same ↦ ap (slice_get (slice_set new m into)) (sym same) ∙ set_here new m into moving_label
          | inr other ↦ set_there new m x into other ∙ moving.set j x low is
        ]
        | inr last ↦
            let one : Some m ≡ Some x = sym at ∙ ap (slice_get moved) (sym last) ∙ is in
            let same : m ≡ x = cc one in
            ap (slice_get (slice_set new m into)) (sym same) ∙ set_here new m into moving_label
      ];
      kept = λ x. elim (same_or_other m x) [
        | inl same ↦ inr (ap (slice_get (slice_set new m into)) (sym same) ∙ set_here new m into moving_label, ap (slice_get old) (sym same) ∙ moving_at i m at)
        | inr other ↦ elim (moving.kept x) [
          | inl stays ↦ inl (set_there new m x into other ∙ stays)
          | inr moves ↦ inr (set_there new m x into other ∙ moves.0, moves.1)
        ]
      ];
      gone = set_there now into from _ (λ e. two (sym e)) ∙ moving.gone;
      joined = set_here now into _ (slice_get_within now into _ moving.joined) ∙ ap (λ r. Some r) longer;
      others = λ l not_from not_into. set_there now into l _ (λ e. not_into (sym e)) ∙ moving.others l not_from not_into;
    }
      where
        longer : (row ++ take i moved) ++ m ∷ [] ≡ row ++ take (i + 1) moved
        longer =
            let lt = slice_get_within moved i m at in
            let item : get_or moved i m ≡ m = get_or_from_slice_get moved i m m at in
            let more : take (i + 1) moved ≡ take i moved ++ m ∷ [] = take_more moved i m lt ∙ ap (λ x. take i moved ++ x ∷ []) item in
            append_assoc row (take i moved) (m ∷ []) ∙ ap (λ r. row ++ r) (sym more)

  module _ (new : List ℕ) (now : List (List ℕ)) (i : ℕ) (moving : IsMoving old new members now from into moved row i) (done : length moved ≤ i) where
    all_set : (m : ℕ) → slice_get old m ≡ Some from → slice_get new m ≡ Some into
    all_set m is =
        let listed = (groups.each m from).0 is in
        let one : Some listed.0 ≡ Some moved = sym listed.1 ∙ is_moved in
        let same : listed.0 ≡ moved = cc one in
        let at = contains_at moved m (subst (λ xs. Contains xs m) same listed.2) in
        let lt = slice_get_within moved at.0 m at.1 in
        moving.set at.0 m (omega (arith, lt, done)) at.1

    -- the labels that stay
    same_label : (m l : ℕ) → slice_get old m ≡ Some l → (l ≡ from → ⊥) → slice_get new m ≡ Some l
    same_label m l is other = elim (moving.kept m) [
      | inl stays ↦ stays ∙ is
      | inr moves ↦ let one : Some l ≡ Some from = sym is ∙ moves.1 in let same : l ≡ from = cc one in absurd (other same)
    ]

    pub moved_relabels : IsRelabelled old new from into
    moved_relabels = record { size = moving.size; moved = all_set; kept = same_label }

    whole : slice_get now into ≡ Some (row ++ moved)
    whole = moving.joined ∙ ap (λ xs. Some (row ++ xs)) (take_all i moved done)

    was_listed : (m l : ℕ) → IsListed members l m → slice_get old m ≡ Some l
    was_listed m l h = (groups.each m l).1 h

    to_list : (m l : ℕ) → slice_get new m ≡ Some l → IsListed now l m
    to_list m l is = by (moving.kept m)
      where
        in_row : slice_get old m ≡ Some into → IsListed now into m
        in_row was =
            let listed = (groups.each m into).0 was in
            let one : Some listed.0 ≡ Some row = sym listed.1 ∙ is_row in
            let same : listed.0 ≡ row = cc one in
            (row ++ moved, whole, Contains-append_left row moved m (subst (λ xs. Contains xs m) same listed.2))

        stays_in : slice_get old m ≡ Some l → (l ≡ from) ⊎ (l ≡ from → ⊥) → (l ≡ into) ⊎ (l ≡ into → ⊥) → IsListed now l m
        stays_in was (inl same) b =
            let one : Some into ≡ Some l = sym (all_set m (was ∙ ap (λ x. Some x) same)) ∙ is in
            let into_is : into ≡ l = cc one in
            absurd (two (sym same ∙ sym into_is))
        stays_in was (inr other) (inl same) = subst (λ x. IsListed now x m) (sym same) (in_row (was ∙ ap (λ x. Some x) same))
        stays_in was (inr other) (inr apart) = let listed = (groups.each m l).0 was in (listed.0, moving.others l other apart ∙ listed.1, listed.2)

        by : (slice_get new m ≡ slice_get old m) ⊎ ((slice_get new m ≡ Some into) × (slice_get old m ≡ Some from)) → IsListed now l m
        by (inl stays) = stays_in (sym stays ∙ is) (same_or_other l from) (same_or_other l into)
        by (inr moves) =
            let listed = (groups.each m from).0 moves.1 in
            let one : Some listed.0 ≡ Some moved = sym listed.1 ∙ is_moved in
            let same : listed.0 ≡ moved = cc one in
            let label : Some into ≡ Some l = sym moves.0 ∙ is in
            let into_is : into ≡ l = cc label in
            subst (λ x. IsListed now x m) into_is (row ++ moved, whole, Contains-append_right row moved m (subst (λ xs. Contains xs m) same listed.2))

    from_list : (m l : ℕ) → IsListed now l m → slice_get new m ≡ Some l
    from_list m l h = by (same_or_other l from) (same_or_other l into)
      where
        by : (l ≡ from) ⊎ (l ≡ from → ⊥) → (l ≡ into) ⊎ (l ≡ into → ⊥) → slice_get new m ≡ Some l
        by (inl same) b =
            let one : Some h.0 ≡ Some [] = sym h.1 ∙ ap (slice_get now) same ∙ moving.gone in
            let none : h.0 ≡ [] = cc one in
            let has = subst (λ xs. Contains xs m) none h.2 in
            absurd (let lt = has.1 in omega (arith, lt))
        by (inr other) (inl same) =
            let one : Some h.0 ≡ Some (row ++ moved) = sym h.1 ∙ ap (slice_get now) same ∙ whole in
            let list : h.0 ≡ row ++ moved = cc one in
            elim (Contains-append_cases row moved m (subst (λ xs. Contains xs m) list h.2)) [
              | inl first ↦ same_label m l (was_listed m l (row, ap (slice_get members) same ∙ is_row, first)) other
              | inr second ↦ all_set m (was_listed m from (moved, is_moved, second)) ∙ ap (λ x. Some x) (sym same)
            ]
        by (inr other) (inr apart) = same_label m l (was_listed m l (h.0, sym (moving.others l other apart) ∙ h.1, h.2)) other

    pub moved_groups : into < length old → AreGroups new now
    moved_groups into_lt = record {
      size = moving.lists ∙ groups.size ∙ sym moving.size;
      within = λ m l is. elim (moving.kept m) [
        | inl stays ↦ let lt = groups.within m l (sym stays ∙ is) in omega (arith, lt, moving.size)
        | inr moves ↦ let one : Some into ≡ Some l = sym moves.0 ∙ is in let same : into ≡ l = cc one in omega (arith, same, into_lt, moving.size)
      ];
      each = λ m l. (to_list m l, from_list m l);
    }

-- ---- a group for each number

pub record AreSingle (labels : List ℕ) (members : List (List ℕ)) (i : ℕ) : Type 0 where
  pub size : length labels ≡ i
  pub lists : length members ≡ i
  pub label : (m l : ℕ) → slice_get labels m ≡ Some l → m ≡ l
  pub list : (l : ℕ) (xs : List ℕ) → slice_get members l ≡ Some xs → xs ≡ l ∷ []

module _ (labels : List ℕ) (members : List (List ℕ)) (i : ℕ) (single : AreSingle labels members i) where
  pub single_next : (new : List ℕ) (more : List (List ℕ)) → new ≡ labels ++ i ∷ [] → more ≡ members ++ (i ∷ []) ∷ [] → AreSingle new more (i + 1)
  single_next new more are lists = record {
    size = ap length are ∙ length_push labels i ∙ ap (λ n. n + 1) single.size;
    lists = ap length lists ∙ length_push members (i ∷ []) ∙ ap (λ n. n + 1) single.lists;
    label = λ m l is. elim (first_or_end labels i l m (sym (ap (λ xs. slice_get xs m) are) ∙ is)) [
      | inl was ↦ single.label m l was
      | inr last ↦ last.1 ∙ single.size ∙ sym last.0
    ];
    list = λ l xs is. elim (first_or_end members (i ∷ []) xs l (sym (ap (λ ys. slice_get ys l) lists) ∙ is)) [
      | inl was ↦ single.list l xs was
      | inr last ↦ last.0 ∙ ap (λ n. n ∷ []) (sym (last.1 ∙ single.lists))
    ];
  }

  single_label : (m : ℕ) → m < length labels → slice_get labels m ≡ Some m
  single_label m lt = let at = there_is labels m lt in at.1 ∙ ap (λ n. Some n) (sym (single.label m at.0 at.1))

  one_of : (l m : ℕ) → Contains (l ∷ []) m → l ≡ m
  one_of l m (zero, lt, e) = e
  one_of l m (suc k, lt, e) = absurd (omega (arith, lt))

  pub single_groups : AreGroups labels members
  single_groups = record {
    size = single.lists ∙ sym single.size;
    within = λ m l is. let lt = slice_get_within labels m l is in let same = single.label m l is in omega (arith, lt, same);
    each = λ m l. (
      λ is.
          let same = single.label m l is in
          let lt = slice_get_within labels m l is in
          let at = there_is members l (omega (arith, lt, same, single.size, single.lists)) in
          let list = single.list l at.0 at.1 in
          (at.0, at.1, subst (λ xs. Contains xs m) (sym list) (0, omega arith, sym same)),
      λ h.
          let list = single.list l h.0 h.1 in
          let same = one_of l m (subst (λ xs. Contains xs m) list h.2) in
          let lt = slice_get_within members l h.0 h.1 in
          single_label m (omega (arith, lt, same, single.size, single.lists)) ∙ ap (λ n. Some n) (sym same),
    );
  }

-- ---- the lists of the first numbers

pub record AreListed (labels : List ℕ) (lists : List (List ℕ)) (i : ℕ) : Type 0 where
  pub size : length lists ≡ length labels
  pub each : (l : ℕ) (list : List ℕ) → slice_get lists l ≡ Some list → (m : ℕ) → Contains list m ↔ ((m < i) × (slice_get labels m ≡ Some l))
  pub ascending : (l : ℕ) (list : List ℕ) → slice_get lists l ≡ Some list → IsStrictlyIncreasing list

none_in : (n l : ℕ) (list : List ℕ) → slice_get (replicate n []) l ≡ Some list → list ≡ []
none_in zero l list is = absurd (cc is)
none_in (suc n) zero list is = let one : [] ≡ list = cc is in sym one
none_in (suc n) (suc l) list is = none_in n l list is

pub listing_begins : (labels : List ℕ) (lists : List (List ℕ)) (n : ℕ) → lists ≡ replicate n [] → n ≡ length labels → AreListed labels lists 0
listing_begins labels lists n are size = record {
  size = ap length are ∙ length-replicate n [] ∙ size;
  each = λ l list is m.
      let none = none_in n l list (sym (ap (λ xs. slice_get xs l) are) ∙ is) in
      (λ h. let has = subst (λ xs. Contains xs m) none h in absurd (let lt = has.1 in omega (arith, lt)), λ h. absurd (let lt = h.0 in omega (arith, lt)));
  ascending = λ l list is k lt.
      let none = none_in n l list (sym (ap (λ xs. slice_get xs l) are) ∙ is) in
      absurd (let short = ap length none in omega (arith, lt, short));
}

-- one more at the end, above all before it
push_ascends : (xs : List ℕ) (x : ℕ) → ((y : ℕ) → Contains xs y → y < x) → IsStrictlyIncreasing xs → IsStrictlyIncreasing (xs ++ x ∷ [])
push_ascends xs x above ascends k lt = by (cases_lt (k + 1) (length xs))
  where
    long : length (xs ++ x ∷ []) ≡ length xs + 1
    long = length_push xs x

    by : (k + 1 < length xs) ⊎ (length xs ≤ k + 1) → get_or (xs ++ x ∷ []) k 0 < get_or (xs ++ x ∷ []) (k + 1) 0
    by (inl low) =
        let here : k < length xs = omega (arith, low) in
        rw (get_or_append_left xs (x ∷ []) 0 k here, get_or_append_left xs (x ∷ []) 0 (k + 1) low) (ascends k low)
    by (inr high) =
        let here : k < length xs = omega (arith, lt, long) in
        let last : k + 1 ≡ length xs = omega (arith, lt, long, high) in
        let item : get_or (xs ++ x ∷ []) (k + 1) 0 ≡ x = ap (λ i. get_or (xs ++ x ∷ []) i 0) last ∙ get_or_from_slice_get (xs ++ x ∷ []) (length xs) x 0 (at_last xs x) in
        rw (get_or_append_left xs (x ∷ []) 0 k here, item) (above (get_or xs k 0) (Contains-get_or xs k 0 here))

module _ (labels : List ℕ) (lists : List (List ℕ)) (i label : ℕ) (row : List ℕ) (listed : AreListed labels lists i) (at : slice_get labels i ≡ Some label) (is_row : slice_get lists label ≡ Some row) where
  now : List (List ℕ)
  now = slice_set lists label (row ++ i ∷ [])

  there : slice_get now label ≡ Some (row ++ i ∷ [])
  unfolding now
  there = set_here lists label (row ++ i ∷ []) (slice_get_within lists label row is_row)

  apart : (l : ℕ) → (label ≡ l → ⊥) → slice_get now l ≡ slice_get lists l
  unfolding now
  apart l other = set_there lists label l (row ++ i ∷ []) other

  listing_size : length now ≡ length labels
  unfolding now
  listing_size = length_set lists label (row ++ i ∷ []) ∙ listed.size

  here_each : (m : ℕ) → Contains (row ++ i ∷ []) m ↔ ((m < i + 1) × (slice_get labels m ≡ Some label))
  here_each m = (
    λ has. elim (Contains-push_cases row i m has) [
      | inl was ↦ let h = (listed.each label row is_row m).0 was in ((let lt = h.0 in omega (arith, lt)), h.1)
      | inr same ↦ (omega (arith, same), ap (slice_get labels) (sym same) ∙ at)
    ],
    λ h. elim (low_or_last m i h.0) [
      | inl low ↦ Contains-append_left row (i ∷ []) m ((listed.each label row is_row m).1 (low, h.1))
      | inr last ↦ subst (Contains (row ++ i ∷ [])) (sym last) (Contains-push row i)
    ],
  )

  there_each : (l : ℕ) (list : List ℕ) → slice_get lists l ≡ Some list → (label ≡ l → ⊥) → (m : ℕ) → Contains list m ↔ ((m < i + 1) × (slice_get labels m ≡ Some l))
  there_each l list is other m = (
    λ has. let h = (listed.each l list is m).0 has in ((let lt = h.0 in omega (arith, lt)), h.1),
    λ h. elim (low_or_last m i h.0) [
      | inl low ↦ (listed.each l list is m).1 (low, h.1)
      | inr last ↦ let one : Some label ≡ Some l = sym at ∙ ap (slice_get labels) (sym last) ∙ h.1 in let same : label ≡ l = cc one in absurd (other same)
    ],
  )

  at_label : (l : ℕ) (list : List ℕ) → slice_get now l ≡ Some list → label ≡ l → list ≡ row ++ i ∷ []
  at_label l list is same = let one : Some list ≡ Some (row ++ i ∷ []) = sym is ∙ ap (slice_get now) (sym same) ∙ there in cc one

  listed_more : AreListed labels now (i + 1)
  listed_more = record {
    size = listing_size;
    each = λ l list is. elim (same_or_other label l) [
      | inl same ↦
          subst (λ xs. (m : ℕ) → Contains xs m ↔ ((m < i + 1) × (slice_get labels m ≡ Some l))) (sym (at_label l list is same))
          (subst (λ x. (m : ℕ) → Contains (row ++ i ∷ []) m ↔ ((m < i + 1) × (slice_get labels m ≡ Some x))) same here_each)
      | inr other ↦ there_each l list (sym (apart l other) ∙ is) other
    ];
    ascending = λ l list is. elim (same_or_other label l) [
      | inl same ↦
          subst IsStrictlyIncreasing (sym (at_label l list is same))
          (push_ascends row i (λ y has. ((listed.each label row is_row y).0 has).0) (listed.ascending label row is_row))
      | inr other ↦ listed.ascending l list (sym (apart l other) ∙ is)
    ];
  }

  pub listing_next : (new : List (List ℕ)) → new ≡ slice_set lists label (row ++ i ∷ []) → AreListed labels new (i + 1)
  unfolding now
  listing_next new are = subst (λ xs. AreListed labels xs (i + 1)) (sym are) listed_more

pub listing_ends : (labels : List ℕ) (lists : List (List ℕ)) (i : ℕ) → AreListed labels lists i → length labels ≤ i → AreFamilies labels lists
listing_ends labels lists i listed done l lt =
    let at = there_is lists l (omega (arith, lt, listed.size)) in (
      at.0,
      at.1,
      record {
        each = λ m. (
          λ has. ((listed.each l at.0 at.1 m).0 has).1,
          λ is. (listed.each l at.0 at.1 m).1 ((let within = slice_get_within labels m l is in omega (arith, within, done)), is),
        );
        ascending = listed.ascending l at.0 at.1;
      },
    )
