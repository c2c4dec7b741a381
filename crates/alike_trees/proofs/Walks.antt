-- Walks over two lists at once, an item at a time.
use Rattle.std.proofs.Common.{◌≡◌, ◌<◌, ◌≤◌, ◌==◌, ℕ, zero, suc, ◌+◌, List, [], ◌∷◌, length, drop, drop-cons, Some, None, Result, Ok, Err, sym, ap, ◌∙◌, subst, refl, arith}
use Rattle.std.specs.Prelude.{◌↔◌, IsTrue, slice_get, slice_index_or as get_or}
use Rattle.std.proofs.lemmas.Bool.Decides.{nat_tests}
use Rattle.std.proofs.lemmas.List.{drop_all}
use Rattle.std.proofs.lemmas.Option.{get_or_from_slice_get, slice_get_within}
use Rattle.alike_trees.specs.declared.sides.Unlike.{Unlike}

nat_eq-sound : (m n : ℕ) → IsTrue (m == n) → m ≡ n
nat_eq-sound m n h = grind (arith, nat_tests)

nat_eq-complete : (m n : ℕ) → m ≡ n → IsTrue (m == n)
nat_eq-complete m n h = grind (arith, nat_tests)

-- an item is lower than its list
pub lower : {X : Type 0} (h : X → ℕ) (hs : List X → ℕ) → ((x : X) (xs : List X) → hs (x ∷ xs) ≡ h x + hs xs + 1)
    → (xs : List X) (k : ℕ) (x : X) → k < length xs → x ≡ get_or xs k x → h x < hs xs
lower h hs sums [] k x low is = absurd (omega (arith, low))
lower h hs sums (y ∷ ys) zero x low is = let same : h x ≡ h y = ap h is in omega (arith, same, sums y ys)
lower h hs sums (y ∷ ys) (suc k) x low is = let i : h x < hs ys = lower h hs sums ys k x (omega (arith, low)) is in omega (arith, i, sums y ys)

-- the rest of a list, from its i-th item on
rest_at : {X : Type 0} (xs : List X) (i : ℕ) (x : X) → i < length xs → x ≡ get_or xs i x → drop i xs ≡ x ∷ drop (i + 1) xs
rest_at xs i x low is =
    let more : suc i ≡ i + 1 = omega arith in
    drop-cons xs i x low ∙ ap (λ y. y ∷ drop (suc i) xs) (sym is) ∙ ap (λ k. x ∷ drop k xs) more

got_at : {X : Type 0} (xs : List X) (i : ℕ) (x : X) → slice_get xs i ≡ Some x → drop i xs ≡ x ∷ drop (i + 1) xs
got_at xs i x is = rest_at xs i x (slice_get_within xs i x is) (sym (get_or_from_slice_get xs i x x is))

missing : {X : Type 0} (xs : List X) (i : ℕ) → i < length xs → None ≡ slice_get xs i → ⊥
missing [] i low none = absurd (omega (arith, low))
missing (x ∷ xs) zero low none = absurd (cc none)
missing (x ∷ xs) (suc i) low none = missing xs i (omega (arith, low)) none

-- lists that are alike by G, where items are by R
pub record IsWalk {X Y : Type 0} (R : X → Y → Type 0) (G : List X → List Y → Type 0) : Type 0 where
  pub none : G [] []
  pub both : (x : X) (xs : List X) (y : Y) (ys : List Y) → G (x ∷ xs) (y ∷ ys) ↔ (R x y × G xs ys)
  pub fewer : (x : X) (xs : List X) → G (x ∷ xs) [] → ⊥
  pub more : (y : Y) (ys : List Y) → G [] (y ∷ ys) → ⊥

-- the rests behind so many items are alike where the lists are
abbrev pub SoFar : {X Y : Type 0} (G : List X → List Y → Type 0) → ℕ → List X → List Y → Type 0
SoFar G i xs ys = G xs ys ↔ G (drop i xs) (drop i ys)

module _ {X Y : Type 0} {R : X → Y → Type 0} {G : List X → List Y → Type 0} (walk : IsWalk R G) where
  as_long : (xs : List X) (ys : List Y) → G xs ys → length ys ≡ length xs
  as_long [] [] h = refl
  as_long [] (y ∷ ys) h = absurd (walk.more y ys h)
  as_long (x ∷ xs) [] h = absurd (walk.fewer x xs h)
  as_long (x ∷ xs) (y ∷ ys) h = ap suc (as_long xs ys ((walk.both x xs y ys).0 h).1)

  at_items : (i : ℕ) (xs : List X) (ys : List Y) (x : X) (y : Y) → i < length xs → x ≡ get_or xs i x → Some y ≡ slice_get ys i
      → G (drop i xs) (drop i ys) ↔ (R x y × G (drop (i + 1) xs) (drop (i + 1) ys))
  at_items i xs ys x y low is got =
      let by = walk.both x (drop (i + 1) xs) y (drop (i + 1) ys) in
      subst (λ zs. G zs (drop i ys) ↔ (R x y × G (drop (i + 1) xs) (drop (i + 1) ys))) (sym (rest_at xs i x low is))
      (subst (λ zs. G (x ∷ drop (i + 1) xs) zs ↔ (R x y × G (drop (i + 1) xs) (drop (i + 1) ys))) (sym (got_at ys i y (sym got))) by)

  module _ (i : ℕ) (xs zs : List X) (ys : List Y) (same : zs ≡ xs) where
    module _ (x : X) (y : Y) (low : i < length zs) (is : x ≡ get_or zs i x) (got : Some y ≡ slice_get ys i) where
      items : G (drop i xs) (drop i ys) ↔ (R x y × G (drop (i + 1) xs) (drop (i + 1) ys))
      items = subst (λ l. G (drop i l) (drop i ys) ↔ (R x y × G (drop (i + 1) l) (drop (i + 1) ys))) same (at_items i zs ys x y low is got)

      -- one more item is alike
      pub next : {Q : Type 0} → Q → Q ↔ R x y → SoFar G i xs ys → SoFar G (i + 1) xs ys
      next q told so_far = (λ h. (items.0 (so_far.0 h)).1, λ h. so_far.1 (items.1 (told.0 q, h)))

      -- an item is not alike
      pub stopped : {Q : Unlike → Type 0} (r : Result Unit Unlike) (u : Unlike) → (v : Unlike) × (r ≡ Err v) × Q v → (Err u ≡ Ok (tt {0})) ↔ R x y → SoFar G i xs ys → (r ≡ Ok (tt {0})) ↔ G xs ys
      stopped r u exit told so_far =
          (λ q. absurd (cc (q, exit.1)), λ h. let ok : Err u ≡ Ok (tt {0}) = told.1 (items.0 (so_far.0 h)).0 in absurd (cc ok))

    -- the second list ends first
    pub short : (u : Unlike) → i < length zs → None ≡ slice_get ys i → (Err u ≡ Ok (tt {0})) ↔ G xs ys
    short u low none = (λ q. absurd (cc q), λ h. absurd (missing ys i (omega (arith, low, ap length same, as_long xs ys h)) none))

    -- the first list has ended
    pub ended : {Q : Type 0} (m n : ℕ) → length zs ≤ i → m ≡ length ys → n ≡ length xs → Q ↔ IsTrue (m == n) → SoFar G i xs ys → Q ↔ G xs ys
    ended {Q = Q} m n past long_ys long_xs told so_far = (to, from)
      where
        at_end : m ≡ n → G (drop i xs) (drop i ys)
        at_end even =
            let no_more : drop i xs ≡ [] = drop_all i xs (omega (arith, past, ap length same)) in
            let none : drop i ys ≡ [] = drop_all i ys (omega (arith, past, ap length same, long_ys, long_xs, even)) in
            subst (λ l. G l (drop i ys)) (sym no_more) (subst (G []) (sym none) walk.none)

        to : Q → G xs ys
        to q = let even : m ≡ n = nat_eq-sound m n (told.0 q) in so_far.1 (at_end even)

        from : G xs ys → Q
        from h = let even : m ≡ n = omega (arith, long_ys, long_xs, as_long xs ys h) in told.1 (nat_eq-complete m n even)
