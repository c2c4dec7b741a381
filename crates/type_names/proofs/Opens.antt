-- Look-ups by package and name.
use Rattle.std.proofs.Common.{◌≡◌, ℕ, zero, suc, ◌+◌, ◌<◌, ◌≤◌, Bool, true, false, not, cond, ◌&&◌, ◌||◌, List, [], ◌∷◌, ◌++◌, Option, Some, None, ◌⊎◌, inl, inr, refl, sym, ap, ◌∙◌, subst, arith, length, get_or, take}
use Rattle.std.specs.Prelude.{slice_get, nat_eq}
use Rattle.std.specs.Bool.{Decides}
use Rattle.std.specs.List.{list_any, position_from}
use Rattle.std.proofs.lemmas.Bool.{cases_Bool, eqb-true, eq-eqb, true≢false, le-leb}
use Rattle.std.proofs.lemmas.Bool.Decides.{Decides-eqb, leb_tells}
use Rattle.std.proofs.lemmas.Slice.Eq.{slice_eq-Decides}
use Rattle.std.proofs.lemmas.List.Folds.{list_any-append}
use Rattle.std.proofs.lemmas.List.{take_more}
use Rattle.java_tree.specs.declared.tree.Name.{Name}
use Rattle.java_tree.specs.declared.tree.Import.{Import}
use Rattle.type_names.specs.declared.firsts.FirstTypes.{FirstTypes}
use Rattle.type_names.specs.Known.{KnownType, File}
use Rattle.type_names.specs.Sees.{same_path, full_name, is_open}
use Rattle.type_names.specs.Paths.{number_in, place_in}
use Rattle.type_names.specs.Tables.{brief, least, fits, first_at, open_key, is_open_in, is_named_by, HoldsTypes}
use Rattle.type_names.proofs.Lists.{place_map, place_same}
use Rattle.type_names.proofs.Truths.{both_same, and_no, or_no, key_tests, last_tests, apart_tests, either_tests}

-- ---- paths

pub same_path_Decides : (a b : List Name) → Decides (same_path a b) (a ≡ b)
same_path_Decides a b = slice_eq-Decides names a b (same_path a b) refl
  where
    names : (x y : Name) → Decides (nat_eq x.0 y.0) (x ≡ y)
    names x y = (λ e. ap (λ n. (λ (r : Name). r) (record { 0 = n })) ((Decides-eqb x.0 y.0).0 e), λ e. (Decides-eqb x.0 y.0).1 (ap (λ (n : Name). n.0) e))

pub path_is : (a b : List Name) → same_path a b ≡ true → a ≡ b
path_is a b e = (same_path_Decides a b).0 e

pub path_same : (a b : List Name) → a ≡ b → same_path a b ≡ true
path_same a b e = (same_path_Decides a b).1 e

pub path_back : (a b : List Name) → same_path a b ≡ same_path b a
path_back a b = both_same (same_path a b) (same_path b a) (λ e. path_same b a (sym (path_is a b e))) (λ e. path_same a b (sym (path_is b a e)))

-- ---- the first place

-- what stands at the first place
pub place_found : {A : Type 0} (p : A → Bool) (n k : ℕ) (xs : List A) → position_from p n xs ≡ Some k → (i : ℕ) × (x : A) × (k ≡ n + i) × (slice_get xs i ≡ Some x) × (p x ≡ true)
place_found p n k [] e = absurd (cc e)
place_found p n k (x ∷ xs) e = elim (cases_Bool (p x)) [
  | inl hit ↦
      let here : Some n ≡ Some k = sym (ap (λ b. cond b (Some n) (position_from p (n + 1) xs)) hit) ∙ e in
      let same : n ≡ k = cc here in
      (0, x, omega arith, refl, hit)
  | inr miss ↦
      let later = place_found p (n + 1) k xs (sym (ap (λ b. cond b (Some n) (position_from p (n + 1) xs)) miss) ∙ e) in
      (suc later.0, later.1, omega (arith, later.2), later.3, later.4)
]

-- an element that passes has a first place
pub place_there : {A : Type 0} (p : A → Bool) (n i : ℕ) (xs : List A) (x : A) → slice_get xs i ≡ Some x → p x ≡ true → (k : ℕ) × (position_from p n xs ≡ Some k)
place_there p n i [] x e h = absurd (cc e)
place_there p n zero (y ∷ xs) x e h = let same : y ≡ x = cc e in (n, ap (λ b. cond b (Some n) (position_from p (n + 1) xs)) (ap p same ∙ h))
place_there p n (suc i) (y ∷ xs) x e h = elim (cases_Bool (p y)) [
  | inl hit ↦ (n, ap (λ b. cond b (Some n) (position_from p (n + 1) xs)) hit)
  | inr miss ↦
      let later = place_there p (n + 1) i xs x e h in
      (later.0, ap (λ b. cond b (Some n) (position_from p (n + 1) xs)) miss ∙ later.1)
]

pub place_none : {A : Type 0} (p : A → Bool) (n : ℕ) (xs : List A) → ((k : ℕ) (x : A) → slice_get xs k ≡ Some x → p x ≡ false) → position_from p n xs ≡ None
place_none p n [] none = refl
place_none p n (x ∷ xs) none = ap (λ b. cond b (Some n) (position_from p (n + 1) xs)) (none 0 x refl) ∙ place_none p (n + 1) xs (λ k y e. none (suc k) y e)

-- where nothing passes
pub none_passes : {A : Type 0} (p : A → Bool) (xs : List A) (k : ℕ) (x : A) → position_from p 0 xs ≡ None → slice_get xs k ≡ Some x → p x ≡ true → ⊥
none_passes p xs k x none e h = let there = place_there p 0 k xs x e h in let bad = there.1 in absurd (cc (bad, none))

place_low : {A : Type 0} (p : A → Bool) (n k : ℕ) (xs : List A) → position_from p n xs ≡ Some k → n ≤ k
place_low p n k xs e = let found = place_found p n k xs e in omega (arith, found.2)

least_low : (n : ℕ) (o : Option ℕ) → ((k : ℕ) → o ≡ Some k → n ≤ k) → least (Some n) o ≡ Some n
least_low n None low = refl
least_low n (Some k) low = ap (λ b. cond b (Some n) (Some k)) (le-leb n k (low k refl))

least_high : (n : ℕ) (o : Option ℕ) → ((k : ℕ) → o ≡ Some k → n < k) → least o (Some n) ≡ Some n
least_high n None low = refl
least_high n (Some k) low = elim (leb_tells k n) [
  | inl le ↦ let lt = low k refl in absurd (omega (arith, le.1))
  | inr gt ↦ ap (λ b. cond b (Some k) (Some n)) gt.0
]

pub least_none : (o : Option ℕ) → least o None ≡ o
least_none None = refl
least_none (Some k) = refl

pub least_cond : (b : Bool) (o n : Option ℕ) → cond b (least o n) o ≡ least o (cond b n None)
least_cond true o n = refl
least_cond false o n = sym (least_none o)

either_place : (a b : Bool) (n : ℕ) (p q r : Option ℕ) → ((k : ℕ) → p ≡ Some k → n < k) → ((k : ℕ) → q ≡ Some k → n < k) → r ≡ least p q
    → cond (a || b) (Some n) r ≡ least (cond a (Some n) p) (cond b (Some n) q)
either_place true true n p q r low high is = sym (least_low n (Some n) (λ k e. let same : n ≡ k = cc e in omega arith))
either_place true false n p q r low high is = sym (least_low n q (λ k e. let lt = high k e in omega (arith, lt)))
either_place false true n p q r low high is = sym (least_high n p low)
either_place false false n p q r low high is = is

-- the first place of either test
pub place_or : {A : Type 0} (p q : A → Bool) (n : ℕ) (xs : List A) → position_from (λ x. p x || q x) n xs ≡ least (position_from p n xs) (position_from q n xs)
place_or p q n [] = refl
place_or p q n (x ∷ xs) =
    either_place (p x) (q x) n (position_from p (n + 1) xs) (position_from q (n + 1) xs) (position_from (λ x. p x || q x) (n + 1) xs)
    (λ k e. let le = place_low p (n + 1) k xs e in omega (arith, le)) (λ k e. let le = place_low q (n + 1) k xs e in omega (arith, le)) (place_or p q (n + 1) xs)

-- ---- numbers of packages

-- two packages have one number exactly where they are one
pub number_same : (ps : List (List Name)) (a b : List Name) (k p : ℕ) → number_in ps a ≡ Some k → number_in ps b ≡ Some p → nat_eq k p ≡ same_path a b
number_same ps a b k p h g = both_same (nat_eq k p) (same_path a b)
    (λ e.
    let same : k ≡ p = eqb-true k p e in
    let x = place_found (λ r. same_path r a) 0 k ps h in
    let y = place_found (λ r. same_path r b) 0 p ps g in
    let places : x.0 ≡ y.0 = omega (arith, x.2, y.2) in
    let one : x.1 ≡ y.1 = cc (x.3, y.3, ap (slice_get ps) places) in
    path_same a b (sym (path_is x.1 a x.4) ∙ one ∙ path_is y.1 b y.4))
    (λ e. let one = ap (number_in ps) (path_is a b e) in let numbers : k ≡ p = cc (h, g, one) in eq-eqb k p numbers)

-- a path without a number is no package
pub no_number : (ps : List (List Name)) (a b : List Name) (k : ℕ) → number_in ps a ≡ Some k → number_in ps b ≡ None → same_path a b ≡ false
no_number ps a b k h none = elim (cases_Bool (same_path a b)) [
  | inl hit ↦ let one = ap (number_in ps) (path_is a b hit) in absurd (cc (h, none, one))
  | inr miss ↦ miss
]

-- a package whose number stands in a list already
pub has_number : (ps : List (List Name)) (d : List ℕ) (a b : List Name) (k p : ℕ) → number_in ps a ≡ Some k → number_in ps b ≡ Some p → list_any (λ y. nat_eq y k) d ≡ true
    → list_any (λ y. nat_eq y p) d ≡ (list_any (λ y. nat_eq y p) d || same_path b a)
has_number ps d a b k p h g there = elim (cases_Bool (same_path b a)) [
  | inl hit ↦
      let one = ap (number_in ps) (path_is b a hit) in
      let numbers : k ≡ p = cc (h, g, one) in
      let here : list_any (λ y. nat_eq y p) d ≡ true = subst (λ n. list_any (λ y. nat_eq y n) d ≡ true) numbers there in
      here ∙ ap (λ z. z || same_path b a) (sym here)
  | inr miss ↦ sym (or_no (list_any (λ y. nat_eq y p) d)) ∙ ap (λ x. list_any (λ y. nat_eq y p) d || x) (sym miss)
]

-- ---- the open types of a name in a package

key_fits : (ps : List (List Name)) (f : File) (h p x : ℕ) (user : Bool) (path : List Name) (t : KnownType) → number_in ps f.unit.«package» ≡ Some h → user ≡ f.user
    → number_in ps path ≡ Some p → number_in ps t.«package» ≡ Some (place_in ps t.«package») → fits (open_key h user p x) (brief ps t) ≡ is_open_in f path x t
key_fits ps f h p x user path t home is at there =
    let same : nat_eq (place_in ps t.«package») p ≡ same_path t.«package» path = number_same ps t.«package» path (place_in ps t.«package») p there at in
    let own : same_path t.«package» path ≡ true → nat_eq p h ≡ same_path t.«package» f.unit.«package» =
    λ e. number_same ps path f.unit.«package» p h at home ∙ ap (λ a. same_path a f.unit.«package») (sym (path_is t.«package» path e)) in
    ap (λ b. (not (not (nat_eq p h)) || t.is_public) && ((not (not user) || not t.user) && (b && nat_eq t.name.0 x))) same
    ∙ ap (λ v. (not (not (nat_eq p h)) || t.is_public) && ((not (not v) || not t.user) && (same_path t.«package» path && nat_eq t.name.0 x))) is
    ∙ key_tests (nat_eq p h) (same_path t.«package» f.unit.«package») t.is_public f.user t.user (same_path t.«package» path) (nat_eq t.name.0 x) own

pub open_first : (ps : List (List Name)) (t : FirstTypes) (ts : List KnownType) (f : File) (h p x : ℕ) (user : Bool) (path : List Name) → HoldsTypes ps t ts
    → number_in ps f.unit.«package» ≡ Some h → user ≡ f.user → number_in ps path ≡ Some p → first_at t (open_key h user p x) ≡ position_from (is_open_in f path x) 0 ts
open_first ps t ts f h p x user path holds home is at =
    holds.firsts (open_key h user p x) ∙ place_map (fits (open_key h user p x)) (brief ps) 0 ts
    ∙ place_same (λ t. fits (open_key h user p x) (brief ps t)) (is_open_in f path x) 0 ts (λ k t e. key_fits ps f h p x user path t home is at (holds.homes k t e))

pub none_open : (ps : List (List Name)) (t : FirstTypes) (ts : List KnownType) (f : File) (x : ℕ) (path : List Name) → HoldsTypes ps t ts → number_in ps path ≡ None
    → position_from (is_open_in f path x) 0 ts ≡ None
none_open ps t ts f x path holds none = place_none (is_open_in f path x) 0 ts (λ k t e.
    ap (λ b. nat_eq t.name.0 x && (is_open f t && b)) (no_number ps t.«package» path (place_in ps t.«package») (holds.homes k t e) none)
    ∙ ap (λ b. nat_eq t.name.0 x && b) (and_no (is_open f t)) ∙ and_no (nat_eq t.name.0 x))

-- ---- single-type imports

pub last_same : (a b : List Name) (m n : Name) → same_path (a ++ m ∷ []) (b ++ n ∷ []) ≡ (same_path a b && nat_eq m.0 n.0)
last_same [] [] m n = and_yes (nat_eq m.0 n.0)
  where
    and_yes : (a : Bool) → (a && true) ≡ a
    and_yes true = refl
    and_yes false = refl
last_same [] (y ∷ []) m n = and_no (nat_eq m.0 y.0)
last_same [] (y ∷ z ∷ b) m n = and_no (nat_eq m.0 y.0)
last_same (x ∷ []) [] m n = and_no (nat_eq x.0 n.0)
last_same (x ∷ z ∷ a) [] m n = and_no (nat_eq x.0 n.0)
last_same (x ∷ a) (y ∷ b) m n = ap (λ r. nat_eq x.0 y.0 && r) (last_same a b m n) ∙ assoc (nat_eq x.0 y.0) (same_path a b) (nat_eq m.0 n.0)
  where
    assoc : (a b c : Bool) → (a && (b && c)) ≡ ((a && b) && c)
    assoc true b c = refl
    assoc false b c = refl

-- what one single-type import names
pub single_is : (ts : List KnownType) (f : File) (i : Import) (home : List Name) (last : Name) (x : ℕ) → i.all ≡ false → i.path ≡ home ++ last ∷ []
    → position_from (is_named_by f (i ∷ []) x) 0 ts ≡ cond (nat_eq last.0 x) (position_from (is_open_in f home last.0) 0 ts) None
single_is ts f i home last x single path = elim (cases_Bool (nat_eq last.0 x)) [
  | inl hit ↦
      place_same (is_named_by f (i ∷ []) x) (is_open_in f home last.0) 0 ts (λ k t e.
      named t ∙ ap (λ y. nat_eq t.name.0 y && (is_open f t && ((same_path t.«package» home && nat_eq t.name.0 last.0) || false))) (sym (eqb-true last.0 x hit))
      ∙ last_tests (nat_eq t.name.0 last.0) (is_open f t) (same_path t.«package» home))
      ∙ ap (λ b. cond b (position_from (is_open_in f home last.0) 0 ts) None) (sym hit)
  | inr miss ↦
      place_none (is_named_by f (i ∷ []) x) 0 ts (λ k t e.
      named t ∙ apart_tests (nat_eq t.name.0 x) (is_open f t) (same_path t.«package» home) (nat_eq t.name.0 last.0)
      (λ a b. let same : last.0 ≡ x = sym (eqb-true t.name.0 last.0 b) ∙ eqb-true t.name.0 x a in true≢false (sym (eq-eqb last.0 x same) ∙ miss)))
      ∙ ap (λ b. cond b (position_from (is_open_in f home last.0) 0 ts) None) (sym miss)
]
  where
    named : (t : KnownType) → is_named_by f (i ∷ []) x t ≡ (nat_eq t.name.0 x && (is_open f t && ((same_path t.«package» home && nat_eq t.name.0 last.0) || false)))
    named t =
        ap (λ b. nat_eq t.name.0 x && (is_open f t && ((not b && same_path (full_name t) i.path) || false))) single
        ∙ ap (λ p. nat_eq t.name.0 x && (is_open f t && (same_path (full_name t) p || false))) path
        ∙ ap (λ b. nat_eq t.name.0 x && (is_open f t && (b || false))) (last_same t.«package» home t.name last)

-- an import that is on demand, or that has no name, names no type
pub names_none : (ts : List KnownType) (f : File) (i : Import) (x : ℕ) → (i.all ≡ true) ⊎ (i.path ≡ []) → position_from (is_named_by f (i ∷ []) x) 0 ts ≡ None
names_none ts f i x why = place_none (is_named_by f (i ∷ []) x) 0 ts (λ k t e. ap (λ b. nat_eq t.name.0 x && (is_open f t && (b || false))) (nothing t why) ∙ ap (λ b. nat_eq t.name.0 x && b) (and_no (is_open f t)) ∙ and_no (nat_eq t.name.0 x))
  where
    not_empty : (a : List Name) (n : Name) → same_path (a ++ n ∷ []) [] ≡ false
    not_empty [] n = refl
    not_empty (x ∷ a) n = refl

    nothing : (t : KnownType) → (i.all ≡ true) ⊎ (i.path ≡ []) → (not i.all && same_path (full_name t) i.path) ≡ false
    nothing t (inl all) = ap (λ b. not b && same_path (full_name t) i.path) all
    nothing t (inr empty) = ap (λ p. not i.all && same_path (full_name t) p) empty ∙ ap (λ b. not i.all && b) (not_empty t.«package» t.name) ∙ and_no (not i.all)

pub named_none : (ts : List KnownType) (f : File) (x : ℕ) → position_from (is_named_by f [] x) 0 ts ≡ None
named_none ts f x = place_none (is_named_by f [] x) 0 ts (λ k t e. ap (λ b. nat_eq t.name.0 x && b) (and_no (is_open f t)) ∙ and_no (nat_eq t.name.0 x))

-- one import more
pub named_more : (ts : List KnownType) (f : File) (is : List Import) (k : ℕ) (i : Import) (x : ℕ) → k < length is → i ≡ get_or is k i
    → position_from (is_named_by f (take (k + 1) is) x) 0 ts ≡ least (position_from (is_named_by f (take k is) x) 0 ts) (position_from (is_named_by f (i ∷ []) x) 0 ts)
named_more ts f is k i x lt at =
    place_same (is_named_by f (take (k + 1) is) x) (λ t. is_named_by f (take k is) x t || is_named_by f (i ∷ []) x t) 0 ts (λ m t e.
    ap (λ l. is_named_by f l x t) (take_more is k i lt ∙ ap (λ y. take k is ++ y ∷ []) (sym at))
    ∙ ap (λ b. nat_eq t.name.0 x && (is_open f t && b)) (list_any-append (λ (i : Import). not i.all && same_path (full_name t) i.path) (take k is) (i ∷ []))
    ∙ either_tests (nat_eq t.name.0 x) (is_open f t) (list_any (λ (i : Import). not i.all && same_path (full_name t) i.path) (take k is)) (list_any (λ (i : Import). not i.all && same_path (full_name t) i.path) (i ∷ [])))
    ∙ place_or (is_named_by f (take k is) x) (is_named_by f (i ∷ []) x) 0 ts
