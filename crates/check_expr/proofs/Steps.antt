-- One more item of a list.
use Rattle.std.proofs.Common.{◌≡◌, Some, None, ℕ, zero, suc, ◌+◌, ◌<◌, List, [], ◌∷◌, ◌++◌, map, length, drop, drop-cons, sym, ap, ◌∙◌, arith}
use Rattle.std.specs.Prelude.{slice_index_or as get_or}
use Rattle.java_tree.specs.declared.tree.Expr.{Expr}
use Rattle.java_tree.specs.View.{plain, plains}
use Rattle.java_tree.specs.Plain as t
use Rattle.class_world.specs.declared.world.JavaType.{JavaType}
use Rattle.java_core.specs.declared.expr.CoreExpr.{CoreExpr}
use Rattle.java_core.specs.Plain as p
use Rattle.java_core.specs.View as view
use Rattle.checked.specs.Checked.{Checked, Fine, behind, also, and_then}
use Rattle.checked.proofs.Lists.{last_of, end_of}
use Rattle.type_facts.specs.declared.scope.LocalVar.{LocalVar}
use Rattle.type_facts.specs.declared.scope.Place.{Place}
use Rattle.type_facts.specs.Facts.{Facts}
use Rattle.operator_rules.specs.declared.uses.Use.TheVariants as use_
use Rattle.check_expr.specs.Typed.{typed_for, typeds, items, item, node_of}
use Rattle.check_expr.specs.Heights.{height, heights}

front : (es : List Expr) (i : ℕ) (e : Expr) → i < length es → e ≡ get_or es i e → plains (drop i es) ≡ t.Also (plain e) (plains (drop (i + 1) es))
front es i e low is =
    let next : suc i ≡ i + 1 = omega arith in
    ap plains (drop-cons es i e low ∙ ap (λ x. x ∷ drop (suc i) es) (sym is)) ∙ ap (λ k. t.Also (plain e) (plains (drop k es))) next

pub done_last : (done : List CoreExpr) (x : CoreExpr) (c : Checked (List p.Expr)) → behind (map view.plain (done ++ x ∷ [])) c ≡ behind (map view.plain done) (also (view.plain x) c)
done_last done x c = last_of view.plain done x c

pub done_end : (done : List CoreExpr) → behind (map view.plain done) (Fine []) ≡ Fine (map view.plain done)
done_end done = end_of (map view.plain done)

pub lower : (es : List Expr) (k : ℕ) (e : Expr) → k < length es → e ≡ get_or es k e → height (plain e) < heights (plains es)
lower [] k e low is = absurd (omega arith)
lower (x ∷ xs) zero e low is = let same : height (plain e) ≡ height (plain x) = ap (λ e. height (plain e)) is in omega (arith, same)
lower (x ∷ xs) (suc k) e low is = let i : height (plain e) < heights (plains xs) = lower xs k e (omega arith) is in omega (arith, i)

-- one more argument
pub typed_step : (f : Facts) (g : Place) (ls : List LocalVar) (es : List Expr) (i : ℕ) (e : Expr) (done done' : List CoreExpr) (x : CoreExpr) → i < length es → e ≡ get_or es i e
    → typed_for f g ls None use_.Read (plain e) ≡ Fine (view.plain x) → done' ≡ done ++ x ∷ [] → behind (map view.plain done) (typeds f g ls (plains (drop i es))) ≡ typeds f g ls (plains es)
    → behind (map view.plain done') (typeds f g ls (plains (drop (i + 1) es))) ≡ typeds f g ls (plains es)
typed_step f g ls es i e done done' x low is fine more so_far =
    let here : plains (drop i es) ≡ t.Also (plain e) (plains (drop (i + 1) es)) = front es i e low is in
    ap (λ ds. behind (map view.plain ds) (typeds f g ls (plains (drop (i + 1) es)))) more
    ∙ done_last done x (typeds f g ls (plains (drop (i + 1) es)))
    ∙ sym (ap (λ c. behind (map view.plain done) (and_then c (λ x. also x (typeds f g ls (plains (drop (i + 1) es)))))) fine)
    ∙ sym (ap (λ es. behind (map view.plain done) (typeds f g ls es)) here)
    ∙ so_far

-- one more item of an array
pub item_step : (f : Facts) (g : Place) (ls : List LocalVar) (ty : JavaType) (es : List Expr) (i : ℕ) (e : Expr) (done done' : List CoreExpr) (x : CoreExpr) → i < length es → e ≡ get_or es i e
    → item f ty (node_of (plain e)).id (typed_for f g ls (Some ty) use_.Read (plain e)) ≡ Fine (view.plain x) → done' ≡ done ++ x ∷ []
    → behind (map view.plain done) (items f g ls ty (plains (drop i es))) ≡ items f g ls ty (plains es)
    → behind (map view.plain done') (items f g ls ty (plains (drop (i + 1) es))) ≡ items f g ls ty (plains es)
item_step f g ls ty es i e done done' x low is fine more so_far =
    let here : plains (drop i es) ≡ t.Also (plain e) (plains (drop (i + 1) es)) = front es i e low is in
    ap (λ ds. behind (map view.plain ds) (items f g ls ty (plains (drop (i + 1) es)))) more
    ∙ done_last done x (items f g ls ty (plains (drop (i + 1) es)))
    ∙ sym (ap (λ c. behind (map view.plain done) (and_then c (λ x. also x (items f g ls ty (plains (drop (i + 1) es)))))) fine)
    ∙ sym (ap (λ es. behind (map view.plain done) (items f g ls ty es)) here)
    ∙ so_far
