-- The test decides what the rule says.
use Rattle.std.proofs.Common.{◌≡◌, ℕ, zero, suc, Bool, true, false, not, ◌⊎◌, inl, inr, [], ◌∷◌, Option, Some, None, refl, sym, ap, ◌∙◌}
use Rattle.std.specs.Prelude.{Decides}
use Rattle.java_tree.specs.declared.tree.Name.{Name}
use Rattle.java_tree.specs.declared.tree.Head.{Head}
use Rattle.java_tree.specs.declared.tree.Head.TheVariants as head
use Rattle.java_tree.specs.Plain as t
use Rattle.java_tree.specs.Plain.{TypeExpr, TypeExprs}
use Rattle.written_types.specs.Places.{Place}
use Rattle.written_types.specs.Types.{variable, takes}
use Rattle.written_types.specs.Breaks.{length_of, IsWellNamed, IsIllNamed}
use Rattle.written_types.specs.Walk.{named_by, head_named, well_by, is_ill_named}
use Rattle.written_types.proofs.Places.{eq_when, eq_same, variable_is, variable_not, variable_has, variable_none}

args_fit : (q : Option ℕ) (xs : TypeExprs) → takes q (length_of xs) ≡ true → (xs ≡ t.NoTypes) ⊎ (q ≡ Some (length_of xs))
args_fit q t.NoTypes e = inl refl
args_fit None (t.AndType x xs) e = absurd (cc e)
args_fit (Some k) (t.AndType x xs) e = inr (ap Some (eq_when k (suc (length_of xs)) e))

takes_all : (k : ℕ) → takes (Some k) k ≡ true
takes_all zero = refl
takes_all (suc k) = eq_same (suc k)

named_well : (p : Place) (n : Name) (xs : TypeExprs) (v m : Option ℕ) → variable n p.vars ≡ v → p.mean n ≡ m → well_by p (named_by v m) (length_of xs) ≡ true
    → IsWellNamed p (head.Path (n ∷ [])) xs
named_well p n t.NoTypes (Some k) m var mean e = inr (inl ((n, refl, variable_is n p.vars k var), refl))
named_well p n (t.AndType x xs) (Some k) m var mean e = absurd (cc e)
named_well p n xs None None var mean e = absurd (cc e)
named_well p n xs None (Some c) var mean e = inr (inr (c, (n, refl, variable_not n p.vars var, mean), args_fit (p.params c) xs e))

well_when : (p : Place) (h : Head) (xs : TypeExprs) → well_by p (head_named p h) (length_of xs) ≡ true → IsWellNamed p h xs
well_when p (head.Prim q) t.NoTypes e = inl (q, refl, refl)
well_when p (head.Prim q) (t.AndType x xs) e = absurd (cc e)
well_when p (head.Path []) xs e = absurd (cc e)
well_when p (head.Path (n ∷ [])) xs e = named_well p n xs (variable n p.vars) (p.mean n) refl refl e
well_when p (head.Path (n ∷ m ∷ names)) xs e = absurd (cc e)

-- what the test is at a simple name
named_is : (p : Place) (h : Head) (n : Name) (v m : Option ℕ) (k : ℕ) → h ≡ head.Path (n ∷ []) → variable n p.vars ≡ v → p.mean n ≡ m
    → well_by p (head_named p h) k ≡ well_by p (named_by v m) k
named_is p h n v m k is var mean =
    ap (λ h. well_by p (head_named p h) k) is ∙ ap (λ v. well_by p (named_by v (p.mean n)) k) var ∙ ap (λ m. well_by p (named_by v m) k) mean

type_is : (p : Place) (c : ℕ) (xs : TypeExprs) → (xs ≡ t.NoTypes) ⊎ (p.params c ≡ Some (length_of xs)) → takes (p.params c) (length_of xs) ≡ true
type_is p c xs (inl none) = ap (λ xs. takes (p.params c) (length_of xs)) none
type_is p c xs (inr all) = ap (λ q. takes q (length_of xs)) all ∙ takes_all (length_of xs)

not_well : (p : Place) (h : Head) (xs : TypeExprs) → well_by p (head_named p h) (length_of xs) ≡ false → IsWellNamed p h xs → ⊥
not_well p h xs e (inl (q, is, none)) = cc (sym (ap (λ h. well_by p (head_named p h) (length_of xs)) is ∙ ap (λ (xs : TypeExprs). takes None (length_of xs)) none) ∙ e)
not_well p h xs e (inr (inl ((n, is, has), none))) =
    let var = variable_has n p.vars has in
    cc (sym (named_is p h n (Some var.0) (p.mean n) (length_of xs) is var.1 refl ∙ ap (λ (xs : TypeExprs). takes None (length_of xs)) none) ∙ e)
not_well p h xs e (inr (inr (c, (n, is, out_, mean), fit))) =
    cc (sym (named_is p h n None (Some c) (length_of xs) is (variable_none n p.vars out_) mean ∙ type_is p c xs fit) ∙ e)

pub ill_decides : (p : Place) (x : TypeExpr) → Decides (is_ill_named p x) (IsIllNamed p x)
ill_decides p (t.Written n h s xs d) = split (well_by p (head_named p h) (length_of xs)) refl
  where
    split : (b : Bool) → well_by p (head_named p h) (length_of xs) ≡ b → Decides (not b) (IsWellNamed p h xs → ⊥)
    split true is = (λ e. absurd (cc e), λ f. absurd (f (well_when p h xs is)))
    split false is = (λ e. not_well p h xs is, λ f. refl)
