-- Names among the type parameters.
use Rattle.std.proofs.Common.{◌≡◌, ℕ, zero, suc, ◌+◌, Bool, true, false, cond, List, [], ◌∷◌, inl, inr, Option, Some, None, refl, sym, ap, subst, ◌∙◌, arith, length, get_or}
use Rattle.std.specs.Prelude.{Contains, nat_eq}
use Rattle.std.proofs.lemmas.Bool.Decides.{nat_tests}
use Rattle.std.specs.List.{position_from}
use Rattle.java_tree.specs.declared.tree.Name.{Name}
use Rattle.rule_order.proofs.Lists.{in_none, in_first, in_rest, in_cases}
use Rattle.written_types.specs.Places.{Place}
use Rattle.written_types.specs.Types.{variable, takes}
use Rattle.written_types.specs.Walk.{named_by, path_named}

pub eq_when : (n m : ℕ) → nat_eq n m ≡ true → n ≡ m
eq_when n m e = grind (arith, nat_tests, e)

pub eq_same : (n : ℕ) → nat_eq n n ≡ true
eq_same n = grind (arith, nat_tests)

one_name : (v n : Name) → v.0 ≡ n.0 → v ≡ n
one_name v n e = made v.0 n.0 e
  where
    made : (a b : ℕ) → a ≡ b → ◌≡◌ {A = Name} (record { 0 = a }) (record { 0 = b })
    made a b e = rw e refl

abbrev test : Name → Name → Bool
test n v = nat_eq v.0 n.0

found_in : (n : Name) (k : ℕ) (vars : List Name) (i : ℕ) → position_from (test n) k vars ≡ Some i → Contains vars n
found_in n k [] i e = absurd (cc e)
found_in n k (v ∷ vars) i e = split (test n v) refl e (λ rest. found_in n (k + 1) vars i rest)
  where
    split : (b : Bool) → test n v ≡ b → cond b (Some k) (position_from (test n) (k + 1) vars) ≡ Some i
        → (position_from (test n) (k + 1) vars ≡ Some i → Contains vars n) → Contains (v ∷ vars) n
    split true is e later = subst (Contains (v ∷ vars)) (one_name v n (eq_when v.0 n.0 is)) (in_first v vars)
    split false is e later = in_rest v n vars (later e)

none_in : (n : Name) (k : ℕ) (vars : List Name) → position_from (test n) k vars ≡ None → Contains vars n → ⊥
none_in n k [] e h = in_none n h
none_in n k (v ∷ vars) e h = split (test n v) refl e (λ rest. none_in n (k + 1) vars rest)
  where
    split : (b : Bool) → test n v ≡ b → cond b (Some k) (position_from (test n) (k + 1) vars) ≡ None
        → (position_from (test n) (k + 1) vars ≡ None → Contains vars n → ⊥) → ⊥
    split true is e later = absurd (cc e)
    split false is e later = elim (in_cases v n vars h) [ inl same ↦ cc (sym is ∙ ap (λ w. nat_eq w.0 n.0) (sym same) ∙ eq_same n.0) | inr rest ↦ later e rest ]

pub variable_is : (n : Name) (vars : List Name) (k : ℕ) → variable n vars ≡ Some k → Contains vars n
variable_is n vars k e = found_in n 0 vars k e

pub variable_not : (n : Name) (vars : List Name) → variable n vars ≡ None → Contains vars n → ⊥
variable_not n vars e = none_in n 0 vars e

pub variable_has : (n : Name) (vars : List Name) → Contains vars n → (k : ℕ) × (variable n vars ≡ Some k)
variable_has n vars h = split (variable n vars) refl
  where
    split : (o : Option ℕ) → variable n vars ≡ o → (k : ℕ) × (variable n vars ≡ Some k)
    split None is = absurd (variable_not n vars is h)
    split (Some k) is = (k, is)

pub variable_none : (n : Name) (vars : List Name) → (Contains vars n → ⊥) → variable n vars ≡ None
variable_none n vars out_ = split (variable n vars) refl
  where
    split : (o : Option ℕ) → variable n vars ≡ o → variable n vars ≡ None
    split None is = is
    split (Some k) is = absurd (out_ (variable_is n vars k is))

-- no arguments
pub no_arguments : (k : ℕ) → nat_eq k 0 ≡ takes None k
no_arguments zero = eq_same 0
no_arguments (suc k) = grind (arith, nat_tests)

-- a path of one name
pub path_one : (p : Place) (path : List Name) (d : Name) → length path ≡ 1 → path_named p path ≡ named_by (variable (get_or path 0 d) p.vars) (p.mean (get_or path 0 d))
path_one p [] d e = absurd (omega (arith, e))
path_one p (n ∷ []) d e = refl
path_one p (n ∷ m ∷ names) d e = absurd (omega (arith, e))
