-- The supertypes of a declaration, clause by clause.
use Rattle.std.proofs.Common.{◌≡◌, ◌+◌, ◌<◌, ◌≤◌, ℕ, zero, suc, Bool, true, false, not, ◌&&◌, ◌||◌, ◌⊎◌, inl, inr, ◌↔◌, List, [], ◌∷◌, ◌++◌, map, take, length, get_or, Option, Some, refl, sym, ap, subst, ◌∙◌, append_assoc, arith}
use Rattle.std.specs.Prelude.{slice_get, is_some, nat_lt}
use Rattle.std.proofs.lemmas.Bool.Decides.{nat_tests}
use Rattle.std.proofs.lemmas.List.{take-append-le}
use Rattle.std.proofs.lemmas.Option.{slice_get_within}
use Rattle.java_tree.specs.declared.tree.TypeExpr as code
use Rattle.java_tree.specs.declared.tree.TypeExpr.{out-TypeExpr}
use Rattle.java_tree.specs.Plain.{TypeExpr, TypeDecl}
use Rattle.java_tree.specs.View.{type_plain}
use Rattle.java_tree.proofs.Views.{type_out}
use Rattle.class_world.specs.declared.world.TypeInfo.{TypeInfo}
use Rattle.rule_order.specs.declared.Breach.{Breach}
use Rattle.rule_order.specs.First.{Either}
use Rattle.rule_order.specs.Noted.{At, Adds, noted}
use Rattle.rule_order.proofs.Adding.{adds_nothing, adds_both, adds_alike, adds_noted}
use Rattle.type_names.proofs.Lists.{get_push}
use Rattle.type_names.proofs.Held.{get_left}
use Rattle.type_names.proofs.Breaches.{get_last}
use Rattle.written_types.specs.Places.{Place}
use Rattle.written_types.specs.Types.{type_of}
use Rattle.written_types.specs.Breaks.{node_of, args_of}
use Rattle.declared_types.specs.Rules.{wants_class, IsUnfit, StandsTwice, IsWrongSuper, BreaksSuper}
use Rattle.declared_types.specs.Spelling.{is_spelled}
use Rattle.declared_types.specs.Looks.{is_unfit, SaysAgain, IsWrong, BreaksBehind}
use Rattle.declared_types.proofs.Deciding.{contains_at, at_contains, wrong_decides}
use Rattle.declared_types.proofs.Lists.{taken}

-- ---- elements of lists

get_taken : {A : Type 0} (xs : List A) (k i : ℕ) (x : A) → slice_get (take k xs) i ≡ Some x → (i < k) × (slice_get xs i ≡ Some x)
get_taken [] zero i x e = absurd (cc e)
get_taken [] (suc k) i x e = absurd (cc e)
get_taken (y ∷ xs) zero i x e = absurd (cc e)
get_taken (y ∷ xs) (suc k) zero x e = (omega arith, e)
get_taken (y ∷ xs) (suc k) (suc i) x e = let below = get_taken xs k i x e in (omega (arith, below.0), below.1)

taken_get : {A : Type 0} (xs : List A) (k i : ℕ) (x : A) → i < k → slice_get xs i ≡ Some x → slice_get (take k xs) i ≡ Some x
taken_get [] k i x lt e = absurd (cc e)
taken_get (y ∷ xs) zero i x lt e = absurd (omega (arith, lt))
taken_get (y ∷ xs) (suc k) zero x lt e = e
taken_get (y ∷ xs) (suc k) (suc i) x lt e = taken_get xs k i x (omega (arith, lt)) e

take_behind : {A : Type 0} (xs ys : List A) (k m : ℕ) → k ≡ length xs + m → take k (xs ++ ys) ≡ xs ++ take m ys
take_behind [] ys k m e = ap (λ n. take n ys) (let same : k ≡ m = omega (arith, e) in same)
take_behind (x ∷ xs) ys zero m e = absurd (omega (arith, e))
take_behind (x ∷ xs) ys (suc k) m e = ap (λ l. x ∷ l) (take_behind xs ys k m (omega (arith, e)))

pub get_behind : {A : Type 0} (xs ys : List A) (k m : ℕ) (x : A) → k ≡ length xs + m → slice_get ys m ≡ Some x → slice_get (xs ++ ys) k ≡ Some x
get_behind [] ys k m x e at = ap (slice_get ys) (let same : k ≡ m = omega (arith, e) in same) ∙ at
get_behind (y ∷ xs) ys zero m x e at = absurd (omega (arith, e))
get_behind (y ∷ xs) ys (suc k) m x e at = get_behind xs ys k m x (omega (arith, e)) at

get_parts : {A : Type 0} (xs ys : List A) (k : ℕ) (x : A) → slice_get (xs ++ ys) k ≡ Some x → (slice_get xs k ≡ Some x) ⊎ ((m : ℕ) × (k ≡ length xs + m) × (slice_get ys m ≡ Some x))
get_parts [] ys k x e = inr (k, omega arith, e)
get_parts (y ∷ xs) ys zero x e = inl e
get_parts (y ∷ xs) ys (suc k) x e = elim (get_parts xs ys k x e) [ inl left ↦ inl left | inr right ↦ inr (right.0, omega (arith, right.1), right.2) ]

-- ---- one more supertype of a clause

module _ (types : List TypeInfo) (p : Place) (wants : Bool) (before : List TypeExpr) where
  wrong_as : (xs ys : List TypeExpr) (x : TypeExpr) (b : Breach) → xs ≡ ys → At 2 (node_of x) (IsWrong types p wants (before ++ xs) x) b → At 2 (node_of x) (IsWrong types p wants (before ++ ys) x) b
  wrong_as xs ys x b same = subst (λ (l : List TypeExpr). At 2 (node_of x) (IsWrong types p wants (before ++ l) x) b) same

  front : (xs : List TypeExpr) (x y : TypeExpr) (k : ℕ) → slice_get xs k ≡ Some y → take k (xs ++ x ∷ []) ≡ take k xs
  front xs x y k at = take-append-le k xs (x ∷ []) (let low = slice_get_within xs k y at in omega (arith, low))

  whole : (xs : List TypeExpr) (x : TypeExpr) → take (length xs) (xs ++ x ∷ []) ≡ xs
  whole [] x = refl
  whole (y ∷ xs) x = ap (λ l. y ∷ l) (whole xs x)

  behind_more : (xs : List TypeExpr) (x : TypeExpr) (a m r : Option Breach) → Adds (BreaksBehind types p wants before xs) a m
      → Adds (At 2 (node_of x) (IsWrong types p wants (before ++ xs) x)) m r → Adds (BreaksBehind types p wants before (xs ++ x ∷ [])) a r
  behind_more xs x a m r f g =
      let here = At 2 (node_of x) (IsWrong types p wants (before ++ xs) x) in
      adds_alike (Either (BreaksBehind types p wants before xs) here) (BreaksBehind types p wants before (xs ++ x ∷ [])) a r (λ b. (
        λ h. elim h [
          | inl u ↦ (u.0, u.1, get_left xs (x ∷ []) u.0 u.1 u.2, wrong_as (take u.0 xs) (take u.0 (xs ++ x ∷ [])) u.1 b (sym (front xs x u.1 u.0 u.2)) u.3)
          | inr u ↦ (length xs, x, get_last xs x, wrong_as xs (take (length xs) (xs ++ x ∷ [])) x b (sym (whole xs x)) u)
        ],
        λ h. elim (get_push xs x h.0 h.1 h.2) [
          | inl old ↦ inl (h.0, h.1, old, wrong_as (take h.0 (xs ++ x ∷ [])) (take h.0 xs) h.1 b (front xs x h.1 h.0 old) h.3)
          | inr new ↦
              let same = ap (λ n. take n (xs ++ x ∷ [])) new.0 ∙ whole xs x in
              inr (subst (λ y. At 2 (node_of y) (IsWrong types p wants (before ++ xs) y) b) (sym new.1) (wrong_as (take h.0 (xs ++ x ∷ [])) xs h.1 b same h.3))
        ],
      )) (adds_both (BreaksBehind types p wants before xs) here a m r f g)

  pub behind_none : (a : Option Breach) → Adds (BreaksBehind types p wants before []) a a
  behind_none a = adds_nothing (BreaksBehind types p wants before []) a (λ b h. let at = h.2 in cc at)

  pub behind_next : (xs : List code.TypeExpr) (i : ℕ) (x : code.TypeExpr) (again wrong : Bool) (a m r : Option Breach) → i < length xs → x ≡ get_or xs i x
      → again ≡ is_spelled p (before ++ map type_plain (take i xs)) (type_plain x) → wrong ≡ (is_unfit types p wants (type_plain x) || (again && is_some (type_of p (type_plain x))))
      → r ≡ noted m 2 (out-TypeExpr x).node wrong → Adds (BreaksBehind types p wants before (map type_plain (take i xs))) a m
      → Adds (BreaksBehind types p wants before (map type_plain (take (i + 1) xs))) a r
  behind_next xs i x again wrong a m r lt is spells test result so_far =
      let old = map type_plain (take i xs) in
      let y = type_plain x in
      let holds = is_unfit types p wants y || (is_spelled p (before ++ old) y && is_some (type_of p y)) in
      let same : wrong ≡ holds = test ∙ ap (λ b. is_unfit types p wants y || (b && is_some (type_of p y))) spells in
      let as_noted : r ≡ noted m 2 (node_of y) holds = result ∙ ap (λ n. noted m 2 n wrong) (sym (ap node_of (type_out x))) ∙ ap (noted m 2 (node_of y)) same in
      let one = adds_noted 2 (node_of y) (IsWrong types p wants (before ++ old) y) holds m (wrong_decides types p wants (before ++ old) y) in
      subst (λ l. Adds (BreaksBehind types p wants before l) a r) (sym (taken type_plain xs i x lt is))
      (behind_more old y a m r so_far (subst (Adds (At 2 (node_of y) (IsWrong types p wants (before ++ old) y)) m) (sym as_noted) one))

-- the list of earlier supertypes, one longer
pub before_next : (before : List TypeExpr) (xs : List code.TypeExpr) (i : ℕ) (x : code.TypeExpr) → i < length xs → x ≡ get_or xs i x
    → (before ++ map type_plain (take i xs)) ++ type_plain x ∷ [] ≡ before ++ map type_plain (take (i + 1) xs)
before_next before xs i x lt is = append_assoc before (map type_plain (take i xs)) (type_plain x ∷ []) ∙ ap (λ l. before ++ l) (sym (taken type_plain xs i x lt is))

-- ---- all clauses

wants_front : (interface : Bool) (k n : ℕ) → k < n → (not interface && nat_lt k n) ≡ not interface
wants_front true k n lt = refl
wants_front false k n lt = grind (arith, nat_tests)

wants_behind : (interface : Bool) (k n : ℕ) → n ≤ k → (not interface && nat_lt k n) ≡ false
wants_behind true k n le = refl
wants_behind false k n le = grind (arith, nat_tests)

module _ (types : List TypeInfo) (p : Place) (d : TypeDecl) where
  abbrev all : List TypeExpr
  all = d.extends ++ d.implements

  says_twice : (k : ℕ) (x : TypeExpr) → slice_get all k ≡ Some x → SaysAgain p (take k all) x → StandsTwice p all k
  says_twice k x at (y, among, ty, says, is) =
      let there = at_contains (take k all) y among in
      let early = get_taken all k there.0 y there.1 in
      (there.0, early.0, y, x, early.1, at, ty, says, is)

  twice_says : (k : ℕ) (x : TypeExpr) → slice_get all k ≡ Some x → StandsTwice p all k → SaysAgain p (take k all) x
  twice_says k x at (i, lt, y, z, first, second, ty, says, is) =
      let same : z ≡ x = cc (second, at) in
      (y, contains_at (take k all) i y (taken_get all k i y lt first), ty, says, ap (type_of p) (sym same) ∙ is)

  wrong_alike : (k : ℕ) (x : TypeExpr) (wants : Bool) (before : List TypeExpr) (b : Breach) → slice_get all k ≡ Some x → wants_class d k ≡ wants → before ≡ take k all
      → At 2 (node_of x) (IsWrong types p wants before x) b ↔ At 2 (node_of x) (IsWrongSuper types p d k x) b
  wrong_alike k x wants before b at kind list = (
    λ h. (
      h.0,
      h.1,
      elim (h.2) [
        | inl u ↦ elim u [ inl v ↦ inl v | inr v ↦ inr (inl (v.0, v.1, subst (λ w. IsUnfit types w (args_of x) v.0) (sym kind) v.2)) ]
        | inr u ↦ inr (inr (says_twice k x at (subst (λ l. SaysAgain p l x) list u)))
      ],
    ),
    λ h. (
      h.0,
      h.1,
      elim (h.2) [
        | inl u ↦ inl (inl u)
        | inr u ↦ elim u [
          | inl v ↦ inl (inr (v.0, v.1, subst (λ w. IsUnfit types w (args_of x) v.0) kind v.2))
          | inr v ↦ inr (subst (λ l. SaysAgain p l x) (sym list) (twice_says k x at v))
        ]
      ],
    ),
  )

  in_front : (k : ℕ) (x : TypeExpr) (b : Breach) → slice_get d.extends k ≡ Some x
      → At 2 (node_of x) (IsWrong types p (not d.interface) (take k d.extends) x) b ↔ At 2 (node_of x) (IsWrongSuper types p d k x) b
  in_front k x b at =
      let low : k < length d.extends = slice_get_within d.extends k x at in
      wrong_alike k x (not d.interface) (take k d.extends) b (get_left d.extends d.implements k x at) (wants_front d.interface k (length d.extends) low)
      (sym (take-append-le k d.extends d.implements (omega (arith, low))))

  in_back : (k m : ℕ) (x : TypeExpr) (b : Breach) → k ≡ length d.extends + m → slice_get d.implements m ≡ Some x
      → At 2 (node_of x) (IsWrong types p false (d.extends ++ take m d.implements) x) b ↔ At 2 (node_of x) (IsWrongSuper types p d k x) b
  in_back k m x b is at =
      wrong_alike k x false (d.extends ++ take m d.implements) b (get_behind d.extends d.implements k m x is at) (wants_behind d.interface k (length d.extends) (omega (arith, is)))
      (sym (take_behind d.extends d.implements k m is))

  pub supers_add : (a m r : Option Breach) → Adds (BreaksBehind types p (not d.interface) [] d.extends) a m → Adds (BreaksBehind types p false d.extends d.implements) m r
      → Adds (BreaksSuper types p d) a r
  supers_add a m r f g =
      let front = BreaksBehind types p (not d.interface) [] d.extends in
      let back = BreaksBehind types p false d.extends d.implements in
      adds_alike (Either front back) (BreaksSuper types p d) a r (λ b. (
        λ h. elim h [
          | inl u ↦ (u.0, u.1, get_left d.extends d.implements u.0 u.1 u.2, (in_front u.0 u.1 b u.2).0 u.3)
          | inr u ↦
              let k = length d.extends + u.0 in
              (k, u.1, get_behind d.extends d.implements k u.0 u.1 refl u.2, (in_back k u.0 u.1 b refl u.2).0 u.3)
        ],
        λ h. elim (get_parts d.extends d.implements h.0 h.1 h.2) [
          | inl at ↦ inl (h.0, h.1, at, (in_front h.0 h.1 b at).1 h.3)
          | inr at ↦ inr (at.0, h.1, at.2, (in_back h.0 at.0 h.1 b at.1 at.2).1 h.3)
        ],
      )) (adds_both front back a m r f g)
