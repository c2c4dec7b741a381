-- The tree of the names of packages.
use Rattle.std.proofs.Common.{◌≡◌, ℕ, ◌+◌, ◌<◌, Bool, true, false, cond, nat_eq, List, [], ◌∷◌, ◌++◌, Option, Some, None, ◌⊎◌, inl, inr, reverse, refl, sym, ap, ◌∙◌, subst, length, get_or, take, drop, append_assoc, ◌↔◌, arith}
use Rattle.std.specs.Option.{option_and_then, option_or, is_some}
use Rattle.std.proofs.lemmas.Bool.{and_parts, eqb-true, eq-eqb}
use Rattle.std.proofs.lemmas.List.{reverse-reverse, reverse-append, append-nil, take_more, drop_more}
use Rattle.java_tree.specs.declared.tree.Name.{Name}
use Rattle.type_names.specs.declared.paths.Step.{Step}
use Rattle.type_names.specs.declared.paths.Tree.{Tree}
use Rattle.type_names.specs.Sees.{same_path}
use Rattle.type_names.specs.Paths.{number_in, HasPath, Steps, HasSteps, AreSteps, Keeps, IsTree, found_in, next_in, same_step, reached, end_in, place_at}
use Rattle.type_names.proofs.Lists.{place_push}
use Rattle.type_names.proofs.Opens.{path_is, path_same, place_found, place_there}

-- ---- one step more

step_is : (k q : Step) → same_step k q ≡ true → k ≡ q
step_is k q e =
    let both = and_parts (nat_eq k.after q.after) (nat_eq k.name q.name) e in
    let nodes = eqb-true k.after q.after both.0 in
    let names = eqb-true k.name q.name both.1 in
    ap (λ x. (λ (r : Step). r) (record { after = x; name = k.name })) nodes ∙ ap (λ x. (λ (r : Step). r) (record { after = q.after; name = x })) names

module _ (old new : Step → Option ℕ) (key : Step) (count node : ℕ) (puts : (q : Step) → new q ≡ cond (same_step key q) (Some node) (old q))
    (is_next : node ≡ count + 1) (holds : AreSteps old count) where
  step_only : (q : Step) (k : ℕ) → new q ≡ Some k → (old q ≡ Some k) ⊎ ((key ≡ q) × (k ≡ node))
  step_only q k is = go (same_step key q) refl
    where
      go : (b : Bool) → same_step key q ≡ b → (old q ≡ Some k) ⊎ ((key ≡ q) × (k ≡ node))
      go true e =
          let here : Some node ≡ Some k = sym (puts q ∙ ap (λ b. cond b (Some node) (old q)) e) ∙ is in
          inr (step_is key q e, cc here)
      go false e = inl (sym (puts q ∙ ap (λ b. cond b (Some node) (old q)) e) ∙ is)

  steps_more : AreSteps new (count + 1)
  steps_more = record {
    some = λ q n e. elim (step_only q n e) [ inl was ↦ holds.some q n was | inr here ↦ let is = here.1 in omega (arith, is, is_next) ];
    below = λ q n e. elim (step_only q n e) [ inl was ↦ let low = holds.below q n was in omega (arith, low) | inr here ↦ let is = here.1 in omega (arith, is, is_next) ];
    apart = λ j k n f e. elim (step_only j n f) [
      | inl was ↦ elim (step_only k n e) [ inl too ↦ holds.apart j k n was too | inr here ↦ let low = holds.below j n was in let is = here.1 in absurd (omega (arith, low, is, is_next)) ]
      | inr here ↦ elim (step_only k n e) [
        | inl was ↦ let low = holds.below k n was in let is = here.1 in absurd (omega (arith, low, is, is_next))
        | inr too ↦ sym here.0 ∙ too.0
      ]
    ];
  }

module _ (old new : Steps) (key : Step) (node : ℕ) (puts : (q : Step) → found_in new q ≡ cond (same_step key q) (Some node) (found_in old q))
    (is_next : node ≡ length old + 1) (holds : HasSteps old) where
  pub added_has : length new ≡ length old + 1 → HasSteps new
  added_has len = subst (AreSteps (found_in new)) (sym len) (steps_more (found_in old) (found_in new) key (length old) node puts is_next holds)

pub no_steps : (m : Steps) → m ≡ [] → HasSteps m
no_steps m empty = subst HasSteps (sym empty) (record { some = λ k n e. absurd (cc e); below = λ k n e. absurd (cc e); apart = λ j k n f e. absurd (cc e) })

-- ---- the ends of paths

abbrev pub Next : Type 0
Next = ℕ → ℕ → Option ℕ

abbrev pub on : Next → Option ℕ → Name → Option ℕ
on next o x = option_and_then (λ s. next s x.0) o

pub reached_both : (next : Next) (o : Option ℕ) (xs ys : List Name) → reached next o (xs ++ ys) ≡ reached next (reached next o xs) ys
reached_both next o [] ys = refl
reached_both next o (x ∷ xs) ys = reached_both next (on next o x) xs ys

pub reached_none : (next : Next) (xs : List Name) → reached next None xs ≡ None
reached_none next [] = refl
reached_none next (x ∷ xs) = reached_none next xs

reached_kept : (old new : Steps) → Keeps old new → (o q : Option ℕ) (xs : List Name) (n : ℕ) → ((k : ℕ) → o ≡ Some k → q ≡ Some k) → reached (next_in old) o xs ≡ Some n → reached (next_in new) q xs ≡ Some n
reached_kept old new keeps o q [] n holds e = holds n e
reached_kept old new keeps o q (x ∷ xs) n holds e = reached_kept old new keeps (on (next_in old) o x) (on (next_in new) q x) xs n (λ k. go k o refl) e
  where
    go : (k : ℕ) (r : Option ℕ) → o ≡ r → on (next_in old) r x ≡ Some k → on (next_in new) q x ≡ Some k
    go k None is h = absurd (cc h)
    go k (Some s) is h = ap (λ r. on (next_in new) r x) (holds s is) ∙ keeps (record { after = s; name = x.0 }) k h

-- a path ends where it did
pub end_kept : (old new : Steps) → Keeps old new → (o : Option ℕ) (xs : List Name) (n : ℕ) → reached (next_in old) o xs ≡ Some n → reached (next_in new) o xs ≡ Some n
end_kept old new keeps o xs n e = reached_kept old new keeps o o xs n (λ k h. h) e

-- with the next name, and where there is no step for it
pub reached_next : (next : Next) (xs : List Name) (i : ℕ) (d : Name) (s n : ℕ) → i < length xs → next s (get_or xs i d).0 ≡ Some n
    → reached next (Some n) (drop (i + 1) xs) ≡ reached next (Some s) (drop i xs)
reached_next next xs i d s n lt e = sym (ap (reached next (Some s)) (drop_more xs i d lt) ∙ ap (λ o. reached next o (drop (i + 1) xs)) e)

pub reached_stop : (next : Next) (xs : List Name) (i : ℕ) (d : Name) (s : ℕ) → i < length xs → next s (get_or xs i d).0 ≡ None → None ≡ reached next (Some s) (drop i xs)
reached_stop next xs i d s lt e = sym (ap (reached next (Some s)) (drop_more xs i d lt) ∙ ap (λ o. reached next o (drop (i + 1) xs)) e ∙ reached_none next (drop (i + 1) xs))

pub path_more : (old new : Steps) → Keeps old new → (xs : List Name) (i : ℕ) (d : Name) (s n : ℕ) → i < length xs → reached (next_in old) (Some 0) (take i xs) ≡ Some s
    → next_in new s (get_or xs i d).0 ≡ Some n → reached (next_in new) (Some 0) (take (i + 1) xs) ≡ Some n
path_more old new keeps xs i d s n lt before e =
    ap (reached (next_in new) (Some 0)) (take_more xs i d lt) ∙ reached_both (next_in new) (Some 0) (take i xs) (get_or xs i d ∷ [])
    ∙ ap (λ o. reached (next_in new) o (get_or xs i d ∷ [])) (end_kept old new keeps (Some 0) (take i xs) s before) ∙ e

-- the end of a path whose last name comes first
abbrev traced : Next → List Name → Option ℕ
traced next [] = Some 0
traced next (x ∷ xs) = on next (traced next xs) x

-- the names of xs, the last first, before ys
abbrev turned : List Name → List Name → List Name
turned [] ys = ys
turned (x ∷ xs) ys = turned xs (x ∷ ys)

turned_is : (xs ys : List Name) → turned xs ys ≡ reverse xs ++ ys
turned_is [] ys = refl
turned_is (x ∷ xs) ys = turned_is xs (x ∷ ys) ∙ sym (append_assoc (reverse xs) (x ∷ []) ys) ∙ ap (λ l. l ++ ys) (sym (reverse-append (x ∷ []) xs))

turned_traced : (next : Next) (xs ys : List Name) → reached next (traced next ys) xs ≡ traced next (turned xs ys)
turned_traced next [] ys = refl
turned_traced next (x ∷ xs) ys = turned_traced next xs (x ∷ ys)

is_traced : (next : Next) (xs : List Name) → reached next (Some 0) xs ≡ traced next (reverse xs)
is_traced next xs = turned_traced next xs [] ∙ ap (traced next) (turned_is xs [] ∙ append-nil (reverse xs))

name_by : (x y : Name) → x.0 ≡ y.0 → x ≡ y
name_by x y e = ap (λ n. (λ (r : Name). r) (record { 0 = n })) e

module _ (m : Steps) (holds : HasSteps m) where
  last_step : (o : Option ℕ) (x : Name) (n : ℕ) → on (next_in m) o x ≡ Some n → (s : ℕ) × (o ≡ Some s) × (next_in m s x.0 ≡ Some n)
  last_step None x n e = absurd (cc e)
  last_step (Some s) x n e = (s, refl, e)

  one_trace : (xs ys : List Name) (n : ℕ) → traced (next_in m) xs ≡ Some n → traced (next_in m) ys ≡ Some n → xs ≡ ys
  one_trace [] [] n e f = refl
  one_trace [] (y ∷ ys) n e f =
      let b = last_step (traced (next_in m) ys) y n f in
      let some = holds.some (record { after = b.0; name = y.0 }) n b.2 in
      let none : 0 ≡ n = cc e in
      absurd (omega (arith, some, none))
  one_trace (x ∷ xs) [] n e f =
      let a = last_step (traced (next_in m) xs) x n e in
      let some = holds.some (record { after = a.0; name = x.0 }) n a.2 in
      let none : 0 ≡ n = cc f in
      absurd (omega (arith, some, none))
  one_trace (x ∷ xs) (y ∷ ys) n e f =
      let a = last_step (traced (next_in m) xs) x n e in
      let b = last_step (traced (next_in m) ys) y n f in
      let same = holds.apart (record { after = a.0; name = x.0 }) (record { after = b.0; name = y.0 }) n a.2 b.2 in
      let nodes : a.0 ≡ b.0 = ap (λ (k : Step). k.after) same in
      let lasts : x ≡ y = name_by x y (ap (λ (k : Step). k.name) same) in
      let rest : xs ≡ ys = one_trace xs ys b.0 (a.1 ∙ ap Some nodes) b.1 in
      cc (lasts, rest)

  -- two paths with one end are one
  pub one_path : (xs ys : List Name) (n : ℕ) → reached (next_in m) (Some 0) xs ≡ Some n → reached (next_in m) (Some 0) ys ≡ Some n → xs ≡ ys
  one_path xs ys n e f =
      let same : reverse xs ≡ reverse ys = one_trace (reverse xs) (reverse ys) n (sym (is_traced (next_in m) xs) ∙ e) (sym (is_traced (next_in m) ys) ∙ f) in
      sym (reverse-reverse xs) ∙ ap reverse same ∙ reverse-reverse ys

-- ---- the places of paths

pub no_end : (ps : List (List Name)) (t : Tree) (path : List Name) → IsTree ps t → end_in t path ≡ None → None ≡ number_in ps path
no_end ps t path tree none = go (number_in ps path) refl
  where
    go : (o : Option ℕ) → number_in ps path ≡ o → None ≡ number_in ps path
    go None is = sym is
    go (Some k) is = let there = tree.all path k is in let end = there.1 in absurd (cc (end, none))

pub at_end : (ps : List (List Name)) (t : Tree) (path : List Name) (n : ℕ) → IsTree ps t → end_in t path ≡ Some n → place_at t n ≡ number_in ps path
at_end ps t path n tree at = go (number_in ps path) refl (place_at t n) refl
  where
    go : (o : Option ℕ) → number_in ps path ≡ o → (p : Option ℕ) → place_at t n ≡ p → place_at t n ≡ number_in ps path
    go (Some k) is p here =
        let there = tree.all path k is in
        let end = there.1 in
        let same : there.0 ≡ n = cc (end, at) in
        ap (place_at t) (sym same) ∙ there.2 ∙ sym is
    go None is None here = here ∙ sym is
    go None is (Some k) here =
        let other = tree.real n k here in
        let same : other.0 ≡ path = one_path t.steps.entries tree.steps other.0 path n other.1 at in
        let number : number_in ps path ≡ Some k = ap (number_in ps) (sym same) ∙ other.2 in
        absurd (cc (number, is))

pub tree_none : (t : Tree) → t.steps.entries ≡ [] → ((n : ℕ) → place_at t n ≡ None) → IsTree [] t
tree_none t empty none = record {
  steps = no_steps t.steps.entries empty;
  real = λ n k e. absurd (let here = none n in cc (e, here));
  all = λ path k e. absurd (cc e);
}

-- whether a path has a number
pub has_told : (ps : List (List Name)) (path : List Name) (o : Option ℕ) → o ≡ number_in ps path → (is_some o ≡ true) ↔ HasPath ps path
has_told ps path o is = (λ e. to o is e, λ h. ap is_some (is ∙ (place_there (λ p. same_path p path) 0 h.0 ps path h.1 (path_same path path refl)).1))
  where
    to : (o : Option ℕ) → o ≡ number_in ps path → is_some o ≡ true → HasPath ps path
    to None is e = absurd (cc e)
    to (Some k) is e = let found = place_found (λ p. same_path p path) 0 k ps (sym is) in (found.0, found.3 ∙ ap Some (path_is found.1 path found.4))

pub none_there : (o : Option ℕ) → is_some o ≡ false → o ≡ None
none_there None e = refl
none_there (Some k) e = absurd (cc e)

pub some_there : (o : Option ℕ) → is_some o ≡ true → (k : ℕ) × (o ≡ Some k)
some_there None e = absurd (cc e)
some_there (Some k) e = (k, refl)

-- ---- a path more

number_more : (ps : List (List Name)) (p q : List Name) → number_in (ps ++ p ∷ []) q ≡ option_or (number_in ps q) (cond (same_path p q) (Some (length ps)) None)
number_more ps p q =
    place_push (λ r. same_path r q) 0 ps p
    ∙ ap (λ k. option_or (number_in ps q) (cond (same_path p q) (Some k) None)) (let e : 0 + length ps ≡ length ps = omega arith in e)

number_stays : (ps : List (List Name)) (p q : List Name) (k : ℕ) → number_in ps q ≡ Some k → number_in (ps ++ p ∷ []) q ≡ Some k
number_stays ps p q k e = number_more ps p q ∙ ap (λ o. option_or o (cond (same_path p q) (Some (length ps)) None)) e

number_new : (ps : List (List Name)) (p : List Name) → number_in ps p ≡ None → number_in (ps ++ p ∷ []) p ≡ Some (length ps)
number_new ps p e =
    number_more ps p p ∙ ap (λ o. option_or o (cond (same_path p p) (Some (length ps)) None)) e ∙ ap (λ b. cond b (Some (length ps)) None) (path_same p p refl)

number_was : (ps : List (List Name)) (p q : List Name) (k : ℕ) → number_in (ps ++ p ∷ []) q ≡ Some k → (number_in ps q ≡ Some k) ⊎ ((number_in ps q ≡ None) × (p ≡ q) × (length ps ≡ k))
number_was ps p q k e = go (number_in ps q) refl (same_path p q) refl
  where
    go : (o : Option ℕ) → number_in ps q ≡ o → (b : Bool) → same_path p q ≡ b → (number_in ps q ≡ Some k) ⊎ ((number_in ps q ≡ None) × (p ≡ q) × (length ps ≡ k))
    go (Some j) is b same =
        let here : Some j ≡ Some k = sym (number_more ps p q ∙ ap (λ o. option_or o (cond (same_path p q) (Some (length ps)) None)) is) ∙ e in
        inl (is ∙ here)
    go None is true same =
        let here : Some (length ps) ≡ Some k =
        sym (number_more ps p q ∙ ap (λ o. option_or o (cond (same_path p q) (Some (length ps)) None)) is ∙ ap (λ b. cond b (Some (length ps)) None) same) ∙ e in
        let last : length ps ≡ k = cc here in
        inr (is, path_is p q same, last)
    go None is false same =
        let here : None ≡ Some k = sym (number_more ps p q ∙ ap (λ o. option_or o (cond (same_path p q) (Some (length ps)) None)) is ∙ ap (λ b. cond b (Some (length ps)) None) same) ∙ e in
        absurd (cc here)

module _ (ps : List (List Name)) (p : List Name) (old new : Tree) (m : ℕ) (tree : IsTree ps old) (has : HasSteps new.steps.entries) (keeps : Keeps old.steps.entries new.steps.entries)
    (at : end_in new p ≡ Some m) where
  keep : (q : List Name) (n : ℕ) → end_in old q ≡ Some n → end_in new q ≡ Some n
  keep q n e = end_kept old.steps.entries new.steps.entries keeps (Some 0) q n e

  -- where no path has its place at the end of the new one
  module _ (none : place_at old m ≡ None) (puts : (n : ℕ) → place_at new n ≡ cond (nat_eq m n) (Some (length ps)) (place_at old n)) where
    is_new : number_in ps p ≡ None
    is_new = go (number_in ps p) refl
      where
        go : (o : Option ℕ) → number_in ps p ≡ o → number_in ps p ≡ None
        go None is = is
        go (Some k) is =
            let there = tree.all p k is in
            let end = keep p there.0 there.1 in
            let same : there.0 ≡ m = cc (end, at) in
            let place : place_at old m ≡ Some k = ap (place_at old) (sym same) ∙ there.2 in
            absurd (cc (place, none))

    stays : (n k : ℕ) → place_at old n ≡ Some k → place_at new n ≡ Some k
    stays n k e = go (nat_eq m n) refl
      where
        go : (b : Bool) → nat_eq m n ≡ b → place_at new n ≡ Some k
        go true is = let place : place_at old m ≡ Some k = ap (place_at old) (eqb-true m n is) ∙ e in absurd (cc (place, none))
        go false is = puts n ∙ ap (λ b. cond b (Some (length ps)) (place_at old n)) is ∙ e

    real_more : (n k : ℕ) → place_at new n ≡ Some k → (b : Bool) → nat_eq m n ≡ b → (q : List Name) × (end_in new q ≡ Some n) × (number_in (ps ++ p ∷ []) q ≡ Some k)
    real_more n k e true is = (p, at ∙ ap Some (eqb-true m n is), number_new ps p is_new ∙ sym (puts n ∙ ap (λ b. cond b (Some (length ps)) (place_at old n)) is) ∙ e)
    real_more n k e false is =
        let was = tree.real n k (sym (puts n ∙ ap (λ b. cond b (Some (length ps)) (place_at old n)) is) ∙ e) in
        (was.0, keep was.0 n was.1, number_stays ps p was.0 k was.2)

    pub tree_put : IsTree (ps ++ p ∷ []) new
    tree_put = record {
      steps = has;
      real = λ n k e. real_more n k e (nat_eq m n) refl;
      all = λ q k e. elim (number_was ps p q k e) [
        | inl was ↦ let there = tree.all q k was in (there.0, keep q there.0 there.1, stays there.0 k there.2)
        | inr here ↦ (m, ap (end_in new) (sym here.1) ∙ at, puts m ∙ ap (λ b. cond b (Some (length ps)) (place_at old m)) (eq-eqb m m refl) ∙ ap Some here.2)
      ];
    }

  -- where the path stands in the list already
  module _ (i : ℕ) (there : place_at old m ≡ Some i) (same : (n : ℕ) → place_at new n ≡ place_at old n) where
    is_old : number_in ps p ≡ Some i
    is_old =
        let was = tree.real m i there in
        let one : was.0 ≡ p = one_path new.steps.entries has was.0 p m (keep was.0 m was.1) at in
        ap (number_in ps) (sym one) ∙ was.2

    pub tree_same : IsTree (ps ++ p ∷ []) new
    tree_same = record {
      steps = has;
      real = λ n k e. let was = tree.real n k (sym (same n) ∙ e) in (was.0, keep was.0 n was.1, number_stays ps p was.0 k was.2);
      all = λ q k e. elim (number_was ps p q k e) [
        | inl was ↦ let is = tree.all q k was in (is.0, keep q is.0 is.1, same is.0 ∙ is.2)
        | inr here ↦ let none : number_in ps p ≡ None = ap (number_in ps) here.1 ∙ here.0 in absurd (let some = is_old in cc (none, some))
      ];
    }
