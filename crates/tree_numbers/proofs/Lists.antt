-- Lists whose items are changed in place, one after the other.
use Rattle.std.proofs.lemmas.List.{length-set}
use Rattle.std.proofs.Common.{◌≡◌, ◌≤◌, ℕ, zero, suc, ◌+◌, List, [], ◌∷◌, ◌++◌, Some, length, map, take, drop, slice_get, slice_set, refl, sym, ap, ◌∙◌, add-one, arith}

-- each item gives another and the number for the next
abbrev pub each : {X Y : Type 0} → (X → ℕ → Y × ℕ) → List X → ℕ → List Y × ℕ
each f [] k = ([], k)
each f (x ∷ xs) k = ((f x k).0 ∷ (each f xs (f x k).1).0, (each f xs (f x k).1).1)

abbrev pub total : {X : Type 0} → (X → ℕ) → List X → ℕ
total f [] = 0
total f (x ∷ xs) = f x + total f xs

-- the first i items are changed, and the others will be, from the number k on
abbrev pub changed : {X Y : Type 0} → (X → Y) → (X → ℕ → Y × ℕ) → ℕ → List X → ℕ → List Y × ℕ
changed see f i xs k = (map see (take i xs) ++ (each f (drop i xs) k).0, (each f (drop i xs) k).1)

pub change_one : {X Y : Type 0} (see : X → Y) (f : X → ℕ → Y × ℕ) (i : ℕ) (xs : List X) (x y : X) (k m : ℕ) → slice_get xs i ≡ Some x → (see y, m) ≡ f x k
    → changed see f (suc i) (slice_set xs i y) m ≡ changed see f i xs k
change_one see f i [] x y k m g e = absurd (cc)
change_one see f zero (z ∷ zs) x y k m g e = let same : z ≡ x = cc in rw (same, ← e) refl
change_one see f (suc i) (z ∷ zs) x y k m g e =
    let rest = change_one see f i zs x y k m g e in
    ap (λ r. (see z ∷ r.0, r.1)) rest

changed_all : {X Y : Type 0} (see : X → Y) (f : X → ℕ → Y × ℕ) (i : ℕ) (xs : List X) (k : ℕ) → length xs ≤ i → changed see f i xs k ≡ (map see xs, k)
changed_all see f zero [] k past = refl
changed_all see f (suc i) [] k past = refl
changed_all see f zero (x ∷ xs) k past = absurd (omega arith)
changed_all see f (suc i) (x ∷ xs) k past = ap (λ r. (see x ∷ r.0, r.1)) (changed_all see f i xs k (omega arith))

pub total_one : {X : Type 0} (f : X → ℕ) (i : ℕ) (xs : List X) (x y : X) → slice_get xs i ≡ Some x
    → total f (drop i xs) ≡ f x + total f (drop (suc i) (slice_set xs i y))
total_one f i [] x y g = absurd (cc)
total_one f zero (z ∷ zs) x y g = let same : z ≡ x = cc in rw same refl
total_one f (suc i) (z ∷ zs) x y g = total_one f i zs x y g

-- a walk over a list in place, at its item i, with the next number
pub record Walk {X Y : Type 0} (see : X → Y) (f : X → ℕ → Y × ℕ) (size : X → ℕ) (first : ℕ) (old : List X) (i : ℕ) (xs : List X) (next : ℕ) : Type 0 where
  pub same : length xs ≡ length old
  pub from : first ≤ next
  pub left : next + total size (drop i xs) ≡ first + total size old
  pub done : changed see f i xs next ≡ each f old first

-- the size of an item that is still to be done
pub walk_at : {X Y : Type 0} (see : X → Y) (f : X → ℕ → Y × ℕ) (size : X → ℕ) (first : ℕ) (old : List X) (i : ℕ) (xs : List X) (next : ℕ) (x : X)
    → Walk see f size first old i xs next → slice_get xs i ≡ Some x → (next + size x ≤ first + total size old) × (size x ≤ total size old)
walk_at see f size first old i xs next x w g =
    let from = w.from in
    let left = w.left in
    let one = total_one size i xs x x g in
    (omega arith, omega arith)

pub walk_goes_on : {X Y : Type 0} (see : X → Y) (f : X → ℕ → Y × ℕ) (size : X → ℕ) (first : ℕ) (old : List X) (i : ℕ) (xs : List X) (next : ℕ) (x y : X) (m : ℕ)
    → Walk see f size first old i xs next → slice_get xs i ≡ Some x → (see y, m) ≡ f x next → (f x next).1 ≡ next + size x
    → Walk see f size first old (i + 1) (slice_set xs i y) m
walk_goes_on see f size first old i xs next x y m w g e s =
    let from = w.from in
    let left = w.left in
    let one = total_one size i xs x y g in
    let rises : m ≡ next + size x = ap (λ r. r.1) e ∙ s in
    record {
      same = length-set xs i y ∙ w.same;
      from = omega arith;
      left = rw add-one (omega arith);
      done = rw add-one (change_one see f i xs x y next m g e ∙ w.done);
    }

pub walk_ends : {X Y : Type 0} (see : X → Y) (f : X → ℕ → Y × ℕ) (size : X → ℕ) (first : ℕ) (old : List X) (i : ℕ) (xs : List X) (next : ℕ)
    → Walk see f size first old i xs next → length old ≤ i → (map see xs, next) ≡ each f old first
walk_ends see f size first old i xs next w past =
    let same = w.same in
    sym (changed_all see f i xs next (omega arith)) ∙ w.done
