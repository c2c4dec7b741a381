-- Tests, and what they decide.
use Rattle.std.proofs.Common.{◌≡◌, ℕ, ◌<◌, ◌⊎◌, Bool, true, false, not, List, [], ◌∷◌, map, Option, Some, None, refl, sym, ap, ◌∙◌, subst}
use Rattle.std.specs.Prelude.{◌≢◌, Contains, Decides, codes, slice_get, nat_eq, nat_lt}
use Rattle.std.specs.List.{list_any}
use Rattle.std.specs.Str.{bytes_eq}
use Rattle.std.proofs.lemmas.Bool.Decides.{Decides-and, Decides-or, Decides-not, Decides-like, Decides-by_or, Decides-eqb, Decides-ltb}
use Rattle.std.proofs.lemmas.List.Elements.{Decides-contains}
use Rattle.std.proofs.lemmas.Slice.Eq.{bytes_eq-Decides}
use Rattle.java_tree.specs.declared.tree.Name.{Name}
use Rattle.java_tree.specs.declared.tree.Head.{Head}
use Rattle.java_tree.specs.declared.tree.Head.TheVariants as head
use Rattle.java_tree.specs.declared.tree.Mod.{Mod}
use Rattle.java_tree.specs.declared.tree.Mod.TheVariants as mods
use Rattle.java_tree.specs.Plain as t
use Rattle.decl_rules.specs.Parts.{head_of, dims_of}
use Rattle.decl_rules.specs.PlainRules.{NamesGeneric, left_out_names, IsLeftOut}
use Rattle.decl_rules.specs.Walk.{names_generic, is_nested}
use Rattle.decl_rules.specs.Looks as spec

pub nil_mapped : {A B : Type 0} (f : A → B) (xs : List A) → spec.is_nil (map f xs) ≡ spec.is_nil xs
nil_mapped f [] = refl
nil_mapped f (x ∷ xs) = refl

pub truth : (b : Bool) → Decides b (b ≡ true)
truth b = (λ e. e, λ e. e)

pub falsity : (b : Bool) → Decides (not b) (b ≡ false)
falsity true = (λ e. absurd (cc e), λ e. absurd (cc e))
falsity false = (λ e. refl, λ e. refl)

pub nil_decides : {A : Type 0} (xs : List A) → Decides (spec.is_nil xs) (xs ≡ [])
nil_decides [] = (λ e. refl, λ e. refl)
nil_decides (x ∷ xs) = (λ e. absurd (cc e), λ e. absurd (cc e))

pub some_decides : {A : Type 0} (xs : List A) → Decides (not (spec.is_nil xs)) (xs ≢ [])
some_decides xs = Decides-not (spec.is_nil xs) (nil_decides xs)

pub same_decides : (a b : Mod) → Decides (spec.same a b) (a ≡ b)
same_decides mods.Public mods.Public = (λ e. refl, λ e. refl)
same_decides mods.Protected mods.Protected = (λ e. refl, λ e. refl)
same_decides mods.Private mods.Private = (λ e. refl, λ e. refl)
same_decides mods.Static mods.Static = (λ e. refl, λ e. refl)
same_decides mods.Abstract mods.Abstract = (λ e. refl, λ e. refl)
same_decides mods.Final mods.Final = (λ e. refl, λ e. refl)
same_decides _ _ = (λ e. absurd (cc e), λ e. absurd (cc e))

pub has_decides : (m : Mod) (xs : List Mod) → Decides (spec.has m xs) (Contains xs m)
has_decides m xs = Decides-contains xs m (spec.has m xs) (Decides-by_or (λ x. spec.same x m) (λ x. x ≡ m) (spec.has m) (λ x. same_decides x m) refl (λ _ _. refl) xs)

pub name_decides : (a b : Name) → Decides (nat_eq a.0 b.0) (a ≡ b)
name_decides a b = Decides-like (nat_eq a.0 b.0) (λ e. ap made e) (λ e. ap (λ (x : Name). x.0) e) (Decides-eqb a.0 b.0)
  where
    made : ℕ → Name
    made k = record { 0 = k }

-- ---- S12

vars_decide : (n : Name) (vars : List Name) → Decides (list_any (λ v. nat_eq v.0 n.0) vars) (Contains vars n)
vars_decide n vars =
    Decides-contains vars n (list_any (λ v. nat_eq v.0 n.0) vars)
    (Decides-by_or (λ v. nat_eq v.0 n.0) (λ v. v ≡ n) (list_any (λ v. nat_eq v.0 n.0)) (λ v. name_decides v n) refl (λ _ _. refl) vars)

generic_decides : (generic : Name → Bool) (vars : List Name) (h : Head) → Decides (names_generic generic vars h) (NamesGeneric generic vars h)
generic_decides generic vars (head.Prim p) = (λ e. absurd (cc e), λ f. absurd (let e = f.1 in cc e))
generic_decides generic vars (head.Path []) = (λ e. absurd (cc e), λ f. absurd (let e = f.1 in cc e))
generic_decides generic vars (head.Path (n ∷ m ∷ names)) = (λ e. absurd (cc e), λ f. absurd (let e = f.1 in cc e))
generic_decides generic vars (head.Path (n ∷ [])) =
    Decides-like _ (λ h. (n, refl, h.1, h.0)) (λ h. from h.0 h.1 h.2 h.3)
    (Decides-and (generic n) (not (list_any (λ v. nat_eq v.0 n.0) vars)) (truth (generic n)) (Decides-not _ (vars_decide n vars)))
  where
    from : (m : Name) → head.Path (n ∷ []) ≡ head.Path (m ∷ []) → (Contains vars m → ⊥) → generic m ≡ true → (generic n ≡ true) × (Contains vars n → ⊥)
    from m e free is = subst (λ (x : Name). (generic x ≡ true) × (Contains vars x → ⊥)) (cc e) (is, free)

pub nested_decides : (generic : Name → Bool) (vars : List Name) (x : t.TypeExpr) → Decides (is_nested generic vars x) ((0 < dims_of x) ⊎ NamesGeneric generic vars (head_of x))
nested_decides generic vars x =
    Decides-or (nat_lt 0 (dims_of x)) (names_generic generic vars (head_of x)) (Decides-ltb 0 (dims_of x)) (generic_decides generic vars (head_of x))

-- ---- S19

names_decide : (text : List ℕ) (names : List (List ℕ)) → Decides (list_any (bytes_eq text) names) (Contains names text)
names_decide text names =
    Decides-contains names text (list_any (bytes_eq text) names)
    (Decides-by_or (bytes_eq text) (λ y. y ≡ text) (list_any (bytes_eq text)) (λ y. Decides-like (bytes_eq text y) (λ e. sym e) (λ e. sym e) (bytes_eq-Decides text y)) refl (λ _ _. refl) names)

left_out_decides : (m : t.MethodDecl) (o : Option (List ℕ)) → Decides (spec.is_left_out (spec.is_nil m.params) o) ((text : List ℕ) × (o ≡ Some text) × IsLeftOut m text)
left_out_decides m None = (λ e. absurd (cc e), λ h. absurd (let e = h.1 in cc e))
left_out_decides m (Some text) =
    Decides-like _ (λ h. (text, refl, h)) (λ h. subst (IsLeftOut m) (same h.0 h.1) h.2)
    (Decides-or (bytes_eq text (codes "wait")) _ (bytes_eq-Decides text (codes "wait"))
    (Decides-and (spec.is_nil m.params) (list_any (bytes_eq text) left_out_names) (nil_decides m.params) (names_decide text left_out_names)))
  where
    same : (other : List ℕ) → Some text ≡ Some other → other ≡ text
    same other e = cc e

pub takes_decides : (names : List (List ℕ)) (m : t.MethodDecl)
    → Decides (spec.takes_name names m) ((m.constructor ≡ false) × ((text : List ℕ) × (slice_get names m.name.0 ≡ Some text) × IsLeftOut m text))
takes_decides names m = Decides-and (not m.constructor) _ (falsity m.constructor) (left_out_decides m (slice_get names m.name.0))
