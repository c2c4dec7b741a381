-- Names that stand before.
use Rattle.std.proofs.Common.{◌≡◌, ℕ, zero, suc, ◌+◌, ◌<◌, ◌⊎◌, inl, inr, Bool, true, false, not, List, [], ◌∷◌, ◌++◌, map, length, drop, get_or, Option, Some, slice_get, ◌↔◌, refl, sym, ap, ◌∙◌, subst, arith}
use Rattle.std.specs.Prelude.{Contains, Decides, nat_eq, if◌then◌else◌}
use Rattle.std.specs.Option.{option_map}
use Rattle.std.specs.List.{list_any}
use Rattle.std.proofs.lemmas.List.{drop_more}
use Rattle.std.proofs.lemmas.Option.{slice_get-map}
use Rattle.std.proofs.lemmas.List.Elements.{Decides-contains, Contains-append_left, Contains-append_cases, Contains-push}
use Rattle.std.proofs.lemmas.Bool.Decides.{Decides-by_or, Decides-eqb, Decides-like, Decides-or}
use Rattle.indexmap.specs.IndexSet.{insert_key}
use Rattle.java_tree.specs.declared.tree.Name.{Name}
use Rattle.java_tree.specs.declared.tree.Node.{Node}
use Rattle.java_tree.specs.declared.tree.Mod.{Mod}
use Rattle.rule_order.specs.declared.Breach.{Breach}
use Rattle.rule_order.specs.First.{Breaches, Either}
use Rattle.decl_rules.specs.declared.repeats.Named.{Named}
use Rattle.rule_order.specs.Noted.{At, Nowhere}
use Rattle.decl_rules.specs.Parts.{IsRepeat}
use Rattle.rule_order.specs.Noted.{Adds, noted}
use Rattle.decl_rules.specs.Looks as look
use Rattle.decl_rules.specs.DeclaredLooks as spec
use Rattle.decl_rules.specs.DeclaredLooks.{again}
use Rattle.rule_order.proofs.Adding.{adds_nothing, adds_both, adds_alike, adds_noted}
use Rattle.rule_order.proofs.Lists.{in_none, in_first, in_rest, in_cases}
use Rattle.decl_rules.proofs.Deciding.{has_decides}

-- ---- the loop

twice_not : (a b : Bool) → a ≡ not b → not a ≡ b
twice_not a true e = ap not e
twice_not a false e = ap not e

pub again_step : (rule : ℕ) (seen keys : List ℕ) (items : List Named) (i : ℕ) (d : Named) (a r all : Option Breach) (new : Bool) → i < length items
    → r ≡ noted a rule (get_or items i d).node (not new) → new ≡ not (list_any (nat_eq (get_or items i d).name.0) seen) → keys ≡ insert_key nat_eq seen (get_or items i d).name.0
    → again rule seen (drop i items) a ≡ all → again rule keys (drop (i + 1) items) r ≡ all
again_step rule seen keys items i d a r all new h is added key so_far =
    let x = get_or items i d in
    let rest = drop (i + 1) items in
    let held = twice_not new (list_any (nat_eq x.name.0) seen) added in
    ap (λ k. again rule k rest r) key
    ∙ ap (λ s. again rule (insert_key nat_eq seen x.name.0) rest s) (is ∙ ap (noted a rule x.node) held)
    ∙ ap (λ l. again rule seen l a) (sym (drop_more items i d h))
    ∙ so_far

-- ---- the set of names

-- the keys seen are the names done
abbrev Agree : List ℕ → List Name → Type 0
Agree seen done = (n : Name) → Decides (list_any (nat_eq n.0) seen) (Contains done n)

any_decides : (n : ℕ) (seen : List ℕ) → Decides (list_any (nat_eq n) seen) (Contains seen n)
any_decides n seen =
    Decides-contains seen n (list_any (nat_eq n) seen)
    (Decides-by_or (nat_eq n) (λ y. y ≡ n) (list_any (nat_eq n)) (λ y. Decides-like (nat_eq n y) (λ e. sym e) (λ e. sym e) (Decides-eqb n y)) refl (λ _ _. refl) seen)

agree_none : Agree [] []
agree_none n = (λ e. absurd (cc e), λ h. absurd (in_none n h))

keys_more : (seen : List ℕ) (k : ℕ) (t : Bool) → list_any (nat_eq k) seen ≡ t → (n : ℕ) → Contains (if t then seen else seen ++ k ∷ []) n ↔ ((n ≡ k) ⊎ Contains seen n)
keys_more seen k true e n = (λ h. inr h, λ h. elim h [ inl u ↦ subst (Contains seen) (sym u) ((any_decides k seen).0 e) | inr u ↦ u ])
keys_more seen k false e n = (
  λ h. elim (Contains-append_cases seen (k ∷ []) n h) [ inl u ↦ inr u | inr u ↦ elim (in_cases k n [] u) [ inl v ↦ inl v | inr v ↦ absurd (in_none n v) ] ],
  λ h. elim h [ inl u ↦ subst (Contains (seen ++ k ∷ [])) (sym u) (Contains-push seen k) | inr u ↦ Contains-append_left seen (k ∷ []) n u ],
)

agree_more : (seen : List ℕ) (done : List Name) (x : Name) → Agree seen done → Agree (insert_key nat_eq seen x.0) (x ∷ done)
agree_more seen done x agree n =
    let keys = insert_key nat_eq seen x.0 in
    let now = any_decides n.0 keys in
    let more = keys_more seen x.0 (list_any (nat_eq x.0) seen) refl n.0 in (
      λ e. elim (more.0 (now.0 e)) [ inl u ↦ subst (Contains (x ∷ done)) (sym (ap (λ k. same k) u)) (in_first x done) | inr u ↦ in_rest x n done ((agree n).0 ((any_decides n.0 seen).1 u)) ],
      λ h. now.1 (more.1 (elim (in_cases x n done h) [ inl u ↦ inl (ap (λ (y : Name). y.0) u) | inr u ↦ inr ((any_decides n.0 seen).0 ((agree n).1 u)) ])),
    )
  where
    same : ℕ → Name
    same k = record { 0 = k }

-- ---- items, of which the names before are done

module _ {A : Type 0} (name : A → Name) (node : A → Node) (rule : ℕ) where
  abbrev Again : List Name → List A → Breaches
  Again done [] = Nowhere
  Again done (x ∷ xs) = Either (At rule (node x) (Contains done (name x))) (Again (name x ∷ done) xs)

  abbrev Repeats : List Name → List A → Breaches
  Repeats done xs b = (j : ℕ) × (x : A) × (slice_get xs j ≡ Some x) × At rule (node x) (Contains done (name x) ⊎ IsRepeat (map name xs) j) b

  abbrev named : A → Named
  named x = record { name = name x; node = node x }

  again_finds : (xs : List A) (seen : List ℕ) (done : List Name) (a : Option Breach) → Agree seen done → Adds (Again done xs) a (again rule seen (map named xs) a)
  again_finds [] seen done a agree = adds_nothing Nowhere a (λ b h. h)
  again_finds (x ∷ xs) seen done a agree =
      let i = noted a rule (node x) (list_any (nat_eq (name x).0) seen) in
      let keys = insert_key nat_eq seen (name x).0 in
      adds_both (At rule (node x) (Contains done (name x))) (Again (name x ∷ done) xs) a i (again rule keys (map named xs) i)
      (adds_noted rule (node x) (Contains done (name x)) (list_any (nat_eq (name x).0) seen) a (agree (name x)))
      (again_finds xs keys (name x ∷ done) i (agree_more seen done (name x) agree))

  name_at : (xs : List A) (j : ℕ) (x : A) → slice_get xs j ≡ Some x → slice_get (map name xs) j ≡ Some (name x)
  name_at xs j x e = slice_get-map name xs j ∙ ap (option_map name) e

  shifted : (n : Name) (names : List Name) (j : ℕ) → IsRepeat names j → IsRepeat (n ∷ names) (suc j)
  shifted n names j (i, m, lt, e, f) = (suc i, m, omega (arith, lt), e, f)

  to_places : (xs : List A) (done : List Name) (b : Breach) → Again done xs b → Repeats done xs b
  to_places [] done b h = absurd h
  to_places (x ∷ xs) done b (inl h) = (0, x, refl, (h.0, h.1, inl h.2))
  to_places (x ∷ xs) done b (inr h) =
      let r = to_places xs (name x ∷ done) b h in
      (suc r.0, r.1, r.2, (r.3.0, r.3.1, place r.0 r.1 r.2 r.3.2))
    where
      place : (j : ℕ) (y : A) → slice_get xs j ≡ Some y → Contains (name x ∷ done) (name y) ⊎ IsRepeat (map name xs) j → Contains done (name y) ⊎ IsRepeat (name x ∷ map name xs) (suc j)
      place j y at (inl u) =
          elim (in_cases (name x) (name y) done u) [
            | inl e ↦ inr (0, name y, omega arith, ap Some (sym e), name_at xs j y at)
            | inr v ↦ inl v
          ]
      place j y at (inr u) = inr (shifted (name x) (map name xs) j u)

  from_places : (xs : List A) (done : List Name) (b : Breach) → Repeats done xs b → Again done xs b
  from_places [] done b h = absurd (let e = h.2 in cc e)
  from_places (x ∷ xs) done b (zero, y, at, h) = inl (first h)
    where
      same : y ≡ x
      same = cc at

      seen : Contains done (name y) ⊎ IsRepeat (name x ∷ map name xs) zero → Contains done (name x)
      seen (inl u) = subst (λ (z : A). Contains done (name z)) same u
      seen (inr u) = absurd (omega (arith, u.2))

      first : At rule (node y) (Contains done (name y) ⊎ IsRepeat (name x ∷ map name xs) zero) b → At rule (node x) (Contains done (name x)) b
      first k = (k.0, k.1 ∙ ap (λ (z : A). (node z).id) same, seen k.2)
  from_places (x ∷ xs) done b (suc j, y, at, h) = inr (from_places xs (name x ∷ done) b (j, y, at, (h.0, h.1, place h.2)))
    where
      place : Contains done (name y) ⊎ IsRepeat (name x ∷ map name xs) (suc j) → Contains (name x ∷ done) (name y) ⊎ IsRepeat (map name xs) j
      place (inl u) = inl (in_rest (name x) (name y) done u)
      place (inr (zero, m, lt, e, f)) =
          let here : name x ≡ m = cc e in
          let there : Some m ≡ Some (name y) = sym f ∙ name_at xs j y at in
          let one : m ≡ name y = cc there in
          inl (subst (Contains (name x ∷ done)) (here ∙ one) (in_first (name x) done))
      place (inr (suc i, m, lt, e, f)) = inr (i, m, omega (arith, lt), e, f)

  -- the rule is broken at each item whose name stands before
  pub repeats_add : (xs : List A) (a : Option Breach)
      → Adds (λ b. (j : ℕ) × (x : A) × (slice_get xs j ≡ Some x) × At rule (node x) (IsRepeat (map name xs) j) b) a (again rule [] (map named xs) a)
  repeats_add xs a =
      adds_alike (Again [] xs) (λ b. (j : ℕ) × (x : A) × (slice_get xs j ≡ Some x) × At rule (node x) (IsRepeat (map name xs) j) b) a (again rule [] (map named xs) a)
      (λ b. (λ h. only b (to_places xs [] b h), λ h. from_places xs [] b (h.0, h.1, h.2, (h.3.0, h.3.1, inr h.3.2)))) (again_finds xs [] [] a agree_none)
    where
      only : (b : Breach) → Repeats [] xs b → (j : ℕ) × (x : A) × (slice_get xs j ≡ Some x) × At rule (node x) (IsRepeat (map name xs) j) b
      only b h = (h.0, h.1, h.2, (h.3.0, h.3.1, elim h.3.2 [ inl u ↦ absurd (in_none (name h.1) u) | inr u ↦ u ]))

-- ---- modifiers

at_place : {A : Type 0} (xs : List A) (x : A) → Contains xs x → (k : ℕ) × (slice_get xs k ≡ Some x)
at_place [] x h = absurd (in_none x h)
at_place (y ∷ ys) x h = elim (in_cases y x ys h) [ inl e ↦ (0, ap Some (sym e)) | inr u ↦ let r = at_place ys x u in (suc r.0, r.1) ]

in_list : {A : Type 0} (xs : List A) (k : ℕ) (x : A) → slice_get xs k ≡ Some x → Contains xs x
in_list [] k x e = absurd (cc e)
in_list (y ∷ ys) zero x e = (let same : y ≡ x = cc e in subst (Contains (y ∷ ys)) same (in_first y ys))
in_list (y ∷ ys) (suc k) x e = in_rest y x ys (in_list ys k x e)

pub repeats_decide : (ms : List Mod) → Decides (spec.repeats ms) ((j : ℕ) × IsRepeat ms j)
repeats_decide [] = (λ e. absurd (cc e), λ h. absurd (let e = h.1.3 in cc e))
repeats_decide (m ∷ ms) = Decides-like _ to from (Decides-or (look.has m ms) (spec.repeats ms) (has_decides m ms) (repeats_decide ms))
  where
    to : Contains ms m ⊎ ((j : ℕ) × IsRepeat ms j) → (j : ℕ) × IsRepeat (m ∷ ms) j
    to (inl u) = (let r = at_place ms m u in (suc r.0, (0, m, omega arith, refl, r.1)))
    to (inr (j, (i, x, lt, e, f))) = (suc j, (suc i, x, omega (arith, lt), e, f))

    from : (j : ℕ) × IsRepeat (m ∷ ms) j → Contains ms m ⊎ ((j : ℕ) × IsRepeat ms j)
    from (zero, h) = absurd (omega (arith, h.2))
    from (suc j, (zero, x, lt, e, f)) = (let same : x ≡ m = cc e in inl (subst (Contains ms) same (in_list ms j x f)))
    from (suc j, (suc i, x, lt, e, f)) = inr (j, (i, x, omega (arith, lt), e, f))
