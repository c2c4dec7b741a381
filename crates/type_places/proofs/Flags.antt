-- Flags by number, and what they say of what is declared.
use Rattle.std.proofs.Common.{◌≡◌, ℕ, zero, suc, ◌<◌, ◌≤◌, Bool, true, false, ◌&&◌, ◌||◌, List, [], ◌∷◌, ◌++◌, length, inl, inr, ◌↔◌, Option, Some, None, Result, Ok, Err, refl, sym, ap, ◌∙◌, subst, arith, nat_eq, nat_le, nat_lt}
use Rattle.std.specs.Prelude.{IsTrue, IfOk, Contains, slice_set, ◌==◌}
use Rattle.std.proofs.lemmas.Bool.{and_from, and_parts, and_right, both_ways, eq-eqb, eqb-false, eqb-true, or_cases}
use Rattle.java_tree.specs.declared.tree.Span.{Span}
use Rattle.class_world.specs.declared.world.World.{World}
use Rattle.class_world.specs.Overriding.{IsFamily}
use Rattle.type_places.specs.declared.places.Declared.{Declared}
use Rattle.type_places.specs.declared.places.Declared.TheVariants as declared
use Rattle.type_places.specs.Changes.{is_flagged}
use Rattle.type_places.specs.Changing.{IsChange, IsTied, is_among, with_flag, with_flags}

-- ---- a flag is set: a write to its place, once there are flags up to it

pub flag_set : (k : ℕ) (bs : List Bool) → k < length bs → with_flag k bs ≡ slice_set bs k true
flag_set k [] h = absurd (omega arith)
flag_set zero (b ∷ bs) h = refl
flag_set (suc k) (b ∷ bs) h = let e = flag_set k bs (omega arith) in cc

pub flag_grown : (k : ℕ) (bs : List Bool) → length bs ≤ k → with_flag k (bs ++ false ∷ []) ≡ with_flag k bs
flag_grown zero [] h = refl
flag_grown (suc k) [] h = refl
flag_grown zero (b ∷ bs) h = absurd (omega arith)
flag_grown (suc k) (b ∷ bs) h = let e = flag_grown k bs (omega arith) in cc

-- ---- the flags that are set

or_false : (b : Bool) → (b || false) ≡ b
or_false true = refl
or_false false = refl

or_true : (b : Bool) → (b || true) ≡ true
or_true true = refl
or_true false = refl

or_behind : (a b c : Bool) → ((a || b) || c) ≡ (a || (b || c))
or_behind true b c = refl
or_behind false b c = refl

here : (k : ℕ) (bs : List Bool) → is_flagged (with_flag k bs) k ≡ true
here zero [] = refl
here zero (b ∷ bs) = refl
here (suc k) [] = here k []
here (suc k) (b ∷ bs) = here k bs

there : (k j : ℕ) (bs : List Bool) → (k ≡ j → ⊥) → is_flagged (with_flag k bs) j ≡ is_flagged bs j
there zero zero bs other = absurd (other refl)
there zero (suc j) [] other = refl
there zero (suc j) (b ∷ bs) other = refl
there (suc k) zero [] other = refl
there (suc k) zero (b ∷ bs) other = refl
there (suc k) (suc j) [] other = there k j [] (λ e. other (ap suc e))
there (suc k) (suc j) (b ∷ bs) other = there k j bs (λ e. other (ap suc e))

one_more : (k j : ℕ) (bs : List Bool) → is_flagged (with_flag k bs) j ≡ (is_flagged bs j || (k == j))
one_more k j bs = go (nat_eq k j) refl
  where
    go : (b : Bool) → nat_eq k j ≡ b → is_flagged (with_flag k bs) j ≡ (is_flagged bs j || (k == j))
    go true e = subst (λ i. is_flagged (with_flag k bs) i ≡ true) (eqb-true k j e) (here k bs) ∙ sym (ap (λ b. is_flagged bs j || b) e ∙ or_true (is_flagged bs j))
    go false e = there k j bs (eqb-false k j e) ∙ sym (ap (λ b. is_flagged bs j || b) e ∙ or_false (is_flagged bs j))

all_more : (xs : List ℕ) (j : ℕ) (bs : List Bool) → is_flagged (with_flags xs bs) j ≡ (is_flagged bs j || is_among xs j)
all_more [] j bs = sym (or_false (is_flagged bs j))
all_more (x ∷ xs) j bs =
    all_more xs j (with_flag x bs) ∙ ap (λ b. b || is_among xs j) (one_more x j bs) ∙ or_behind (is_flagged bs j) (x == j) (is_among xs j)

pub flags : (xs : List ℕ) (j : ℕ) → is_flagged (with_flags xs []) j ≡ is_among xs j
flags xs j = all_more xs j []

among_first : (x : ℕ) (xs : List ℕ) (k : ℕ) → x ≡ k → is_among (x ∷ xs) k ≡ true
among_first x xs k e = ap (λ b. b || is_among xs k) (eq-eqb x k e)

among_rest : (x : ℕ) (xs : List ℕ) (k : ℕ) → is_among xs k ≡ true → is_among (x ∷ xs) k ≡ true
among_rest x xs k e = ap (λ b. (x == k) || b) e ∙ or_true (x == k)

to_contains : (xs : List ℕ) (k : ℕ) → is_among xs k ≡ true → Contains xs k
to_contains [] k h = absurd (both_ways false refl h)
to_contains (x ∷ xs) k h = elim (or_cases (x == k) (is_among xs k) h) [ inl e ↦ (0, omega arith, eqb-true x k e) | inr e ↦ more (to_contains xs k e) ]
  where
    more : Contains xs k → Contains (x ∷ xs) k
    more c = (suc c.0, omega (arith, c.1), c.2)

from_contains : (xs : List ℕ) (k : ℕ) → Contains xs k → is_among xs k ≡ true
from_contains [] k (i, low, is) = absurd (omega (arith, low))
from_contains (x ∷ xs) k (zero, low, is) = among_first x xs k is
from_contains (x ∷ xs) k (suc i, low, is) = among_rest x xs k (from_contains xs k (i, omega (arith, low), is))

-- the flags of a family are those of its list
pub family : (w : World) (method : ℕ) (xs : List ℕ) → method < length w.methods → ((m : ℕ) → Contains xs m ↔ IsFamily w method m)
    → (m : ℕ) → IsTrue (is_flagged (with_flags xs []) m) ↔ IsTied w method m
family w method xs low all m = (λ h. (low, (all m).0 (to_contains xs m (sym (flags xs m) ∙ h))), λ h. flags xs m ∙ from_contains xs m ((all m).1 h.1))

pub no_family : (w : World) (method : ℕ) → length w.methods ≤ method → (m : ℕ) → IsTrue (is_flagged [] m) ↔ IsTied w method m
no_family w method high m = (λ h. absurd (both_ways false refl h), λ h. absurd (omega (arith, high, h.0)))

-- ---- what changes with each declaration

no_param : (i : ℕ) → IsTrue ((i == 0) && false) ↔ ⊥
no_param i = (λ h. both_ways _ (and_right (i == 0) false refl) h, λ h. absurd h)

-- the scope of no local
abbrev pub nowhere : Span
nowhere = record { from = 0; to = 0 }

module _ (w : World) (old new : ℕ) where
  pub locals_change : (body : ℕ) (slots : List ℕ) (scope : Span)
      → IsChange w old (declared.Locals body slots scope) new (record { old = old; new = new; fields = []; results = []; params = []; index = 0; body = Some body; scope = scope; slots = with_flags slots [] })
  locals_change body slots scope = record {
    from = refl;
    to = refl;
    field = λ f. refl;
    result = λ m. refl;
    param = λ m i. no_param i;
    slot = λ m k at. ap (λ b. ((k == 0) && false) || (((body == m) && (nat_le scope.from at && nat_lt at scope.to)) && b)) (flags slots k);
  }

  pub param_change : (method index : ℕ) (params : List Bool) → ((m : ℕ) → IsTrue (is_flagged params m) ↔ IsTied w method m)
      → IsChange w old (declared.Param method index) new (record { old = old; new = new; fields = []; results = []; params = params; index = index; body = None; scope = nowhere; slots = [] })
  param_change method index params all = record {
    from = refl;
    to = refl;
    field = λ f. refl;
    result = λ m. refl;
    param = λ m i. (λ h. let both = and_parts (i == index) (is_flagged params m) h in (eqb-true i index both.0, (all m).0 both.1), λ h. and_from _ _ (eq-eqb i index h.0) ((all m).1 h.1));
    slot = λ m k at. refl;
  }

  pub fields_change : (fields : List ℕ) → IsChange w old (declared.Fields fields) new (record { old = old; new = new; fields = with_flags fields []; results = []; params = []; index = 0; body = None; scope = nowhere; slots = [] })
  fields_change fields = record {
    from = refl;
    to = refl;
    field = flags fields;
    result = λ m. refl;
    param = λ m i. no_param i;
    slot = λ m k at. refl;
  }

  pub result_change : (method : ℕ) → IsChange w old (declared.Result method) new (record { old = old; new = new; fields = []; results = with_flags (method ∷ []) []; params = []; index = 0; body = None; scope = nowhere; slots = [] })
  result_change method = record {
    from = refl;
    to = refl;
    field = λ f. refl;
    result = λ m. flags (method ∷ []) m ∙ or_false (method == m);
    param = λ m i. no_param i;
    slot = λ m k at. refl;
  }

-- the same of lists that are equal
pub with_lists : (w : World) (old : ℕ) (d : Declared) (new index : ℕ) (body : Option ℕ) (scope : Span) (fs rs ps ss fs' rs' ps' ss' : List Bool) → fs ≡ fs' → rs ≡ rs' → ps ≡ ps' → ss ≡ ss'
    → IsChange w old d new (record { old = old; new = new; fields = fs'; results = rs'; params = ps'; index = index; body = body; scope = scope; slots = ss' })
    → IsChange w old d new (record { old = old; new = new; fields = fs; results = rs; params = ps; index = index; body = body; scope = scope; slots = ss })
with_lists w old d new index body scope fs rs ps ss fs' rs' ps' ss' f r p s is =
    subst (λ x. IsChange w old d new (record { old = old; new = new; fields = x; results = rs; params = ps; index = index; body = body; scope = scope; slots = ss })) (sym f)
    (subst (λ x. IsChange w old d new (record { old = old; new = new; fields = fs'; results = x; params = ps; index = index; body = body; scope = scope; slots = ss })) (sym r)
    (subst (λ x. IsChange w old d new (record { old = old; new = new; fields = fs'; results = rs'; params = x; index = index; body = body; scope = scope; slots = ss })) (sym p)
    (subst (λ x. IsChange w old d new (record { old = old; new = new; fields = fs'; results = rs'; params = ps'; index = index; body = body; scope = scope; slots = x })) (sym s) is)))

-- answers that are Ok

pub ok_as : {A E : Type 0} (r : Result A E) (a : A) (P : A → Type 0) → P a → IfOk r (λ x. x ≡ a) → IfOk r P
ok_as (Ok x) a P h e = subst P (sym e) h
ok_as (Err x) a P h e = e

pub ok_for : {A E : Type 0} (r : Result A E) (P Q : A → Type 0) → ((x : A) → P x → Q x) → IfOk r P → IfOk r Q
ok_for (Ok x) P Q f h = f x h
ok_for (Err x) P Q f h = h
