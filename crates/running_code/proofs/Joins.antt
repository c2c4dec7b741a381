-- Whether strings count as literals.
use Rattle.std.proofs.Common.{◌≡◌, ℕ, Bool, true, false, List, [], ◌++◌, Option, Some, None, refl, sym, ap, ◌∙◌, append_assoc}
use Rattle.std.specs.Prelude.{is_some, unwrap_or, ◌&&◌}
use Rattle.java_tree.specs.declared.tree.BinOp.{BinOp}
use Rattle.java_core.specs.declared.expr.Kind.{Kind}
use Rattle.java_core.specs.declared.expr.CoreExpr.{CoreExpr}
use Rattle.java_core.specs.declared.expr.CoreForm.{CoreForm}
use Rattle.java_core.specs.declared.expr.CoreForm.TheOpen as f
use Rattle.java_core.specs.declared.expr.CoreForm.TheVariants as v
use Rattle.java_core.specs.declared.expr.CoreForm.TheFolds.{map-CoreForm}
use Rattle.java_core.specs.Plain as p
use Rattle.java_core.specs.View.{at_form, form_plain, plain}
use Rattle.java_core.proofs.Views.{form_out, plain_at}
use Rattle.core_meaning.specs.Code.{both, is_join_of, literal_of, only_if}

pub joins : (j : Bool) (a b : Option (List ℕ)) → is_some (only_if j (both a b)) ≡ (j && is_some b && is_some a)
joins false a b = refl
joins true None None = refl
joins true None (Some ys) = refl
joins true (Some xs) None = refl
joins true (Some xs) (Some ys) = refl

-- the parts of a concatenation that is a literal are literals
pub join_left : (j : Bool) (a b : Option (List ℕ)) → is_some (only_if j (both a b)) ≡ true → is_some a ≡ true
join_left true (Some xs) (Some ys) h = refl
join_left true (Some xs) None h = absurd (cc h)
join_left true None b h = absurd (cc h)
join_left false a b h = absurd (cc h)

pub join_right : (j : Bool) (a b : Option (List ℕ)) → is_some (only_if j (both a b)) ≡ true → is_some b ≡ true
join_right true (Some xs) (Some ys) h = refl
join_right true (Some xs) None h = absurd (cc h)
join_right true None b h = absurd (cc h)
join_right false a b h = absurd (cc h)

pub join_both : (j : Bool) (a b : Option (List ℕ)) → is_some (only_if j (both a b)) ≡ true → unwrap_or (only_if j (both a b)) [] ≡ unwrap_or a [] ++ unwrap_or b []
join_both true (Some xs) (Some ys) h = refl
join_both true (Some xs) None h = absurd (cc h)
join_both true None b h = absurd (cc h)
join_both false a b h = absurd (cc h)

-- two texts that are there are joined
pub joined : (a b : Option (List ℕ)) → is_some a ≡ true → is_some b ≡ true → Some (unwrap_or a [] ++ unwrap_or b []) ≡ both a b
joined (Some xs) (Some ys) h i = refl
joined (Some xs) None h i = absurd (cc i)
joined None b h i = absurd (cc h)

-- a concatenation, by its parts

abbrev level : f.CoreForm-F CoreForm CoreExpr → p.Form
level L = at_form (map-CoreForm CoreForm CoreExpr p.Form p.Expr form_plain plain L)

pub binary_units : (e : CoreExpr) (op : BinOp) (k : Kind) (x y : CoreExpr) → e.form ≡ v.Binary op k x y
    → literal_of (plain e) ≡ only_if (is_join_of op k) (both (literal_of (plain x)) (literal_of (plain y)))
binary_units e op k x y is =
    ap literal_of (plain_at e ∙ ap (p.At e.node e.ty) (ap form_plain is ∙ form_out (v.Binary op k x y) ∙ ap level (v.outs-Binary op k x y)))

pub right_is : (e : CoreExpr) (op : BinOp) (k : Kind) (x y : CoreExpr) → e.form ≡ v.Binary op k x y → is_some (literal_of (plain e)) ≡ true → is_some (literal_of (plain y)) ≡ true
right_is e op k x y is h = join_right (is_join_of op k) (literal_of (plain x)) (literal_of (plain y)) (sym (ap is_some (binary_units e op k x y is)) ∙ h)

pub left_is : (e : CoreExpr) (op : BinOp) (k : Kind) (x y : CoreExpr) → e.form ≡ v.Binary op k x y → is_some (literal_of (plain e)) ≡ true → is_some (literal_of (plain x)) ≡ true
left_is e op k x y is h = join_left (is_join_of op k) (literal_of (plain x)) (literal_of (plain y)) (sym (ap is_some (binary_units e op k x y is)) ∙ h)

-- the units of a concatenation that is a literal
pub binary_is : (e : CoreExpr) (op : BinOp) (k : Kind) (x y : CoreExpr) → e.form ≡ v.Binary op k x y → is_some (literal_of (plain e)) ≡ true
    → unwrap_or (literal_of (plain x)) [] ++ unwrap_or (literal_of (plain y)) [] ≡ unwrap_or (literal_of (plain e)) []
binary_is e op k x y is h =
    let parts = binary_units e op k x y is in
    sym (join_both (is_join_of op k) (literal_of (plain x)) (literal_of (plain y)) (sym (ap is_some parts) ∙ h)) ∙ sym (ap (λ o. unwrap_or o []) parts)

pub binary_pushed : (e : CoreExpr) (op : BinOp) (k : Kind) (x y u z : CoreExpr) (out one two : List ℕ) → e.form ≡ v.Binary op k x y → is_some (literal_of (plain e)) ≡ true → u ≡ x → z ≡ y
    → (is_some (literal_of (plain u)) ≡ true → one ≡ out ++ unwrap_or (literal_of (plain u)) [])
    → (is_some (literal_of (plain z)) ≡ true → two ≡ one ++ unwrap_or (literal_of (plain z)) [])
    → two ≡ out ++ unwrap_or (literal_of (plain e)) []
binary_pushed e op k x y u z out one two is h left right first second =
    let units : CoreExpr → List ℕ = λ x. unwrap_or (literal_of (plain x)) [] in
    second (ap (λ x. is_some (literal_of (plain x))) right ∙ right_is e op k x y is h)
    ∙ ap (λ l. l ++ units z) (first (ap (λ x. is_some (literal_of (plain x))) left ∙ left_is e op k x y is h))
    ∙ append_assoc out (units u) (units z)
    ∙ ap (λ l. out ++ l) (ap (λ u. units u ++ units z) left ∙ ap (λ z. units x ++ units z) right ∙ binary_is e op k x y is h)

pub none_of : (o : Option (List ℕ)) → false ≡ is_some o → None ≡ o
none_of None h = refl
none_of (Some xs) h = absurd (cc h)
