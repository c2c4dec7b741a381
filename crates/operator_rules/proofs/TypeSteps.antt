-- Written types, by their parts.
use Rattle.std.proofs.Common.{◌≡◌, ℕ, zero, suc, ◌+◌, ◌<◌, true, false, List, [], ◌∷◌, ◌++◌, map, length, drop, drop-cons, Option, Some, None, refl, sym, ap, ◌∙◌, arith, add-one}
use Rattle.std.specs.Prelude.{nat_eq, slice_index_or as get_or}
use Rattle.java_tree.specs.declared.tree.TypeExpr.{TypeExpr, out-TypeExpr}
use Rattle.java_tree.specs.Plain as t
use Rattle.java_tree.specs.View.{type_plain, types}
use Rattle.java_tree.proofs.Views.{type_out}
use Rattle.java_core.specs.declared.written.CoreType.{CoreType, out-CoreType}
use Rattle.java_core.specs.View as view
use Rattle.java_core.proofs.Views as views
use Rattle.java_core.specs.Plain as p
use Rattle.checked.specs.Checked.{Checked, Fine, Broken, and_then, also, behind}
use Rattle.checked.proofs.Lists.{last_of, end_of}
use Rattle.type_facts.specs.Facts.{Facts}
use Rattle.type_facts.specs.declared.scope.Place.{Place}
use Rattle.operator_rules.specs.Writtens as spec

pub type_of : (x : CoreType) → spec.type_said (view.written x) ≡ (out-CoreType x).ty
type_of x = ap spec.type_said (views.type_out x)

-- ---- numbers of arguments

pub takes_none : (n : Option ℕ) (k : ℕ) → k ≡ 0 → spec.takes n k ≡ true
takes_none n zero e = refl
takes_none n (suc k) e = absurd (omega (arith, e))

pub takes_no : (k : ℕ) → (k ≡ 0 → ⊥) → spec.takes None k ≡ false
takes_no zero e = absurd (e refl)
takes_no (suc k) e = refl

pub takes_many : (n k : ℕ) → (k ≡ 0 → ⊥) → spec.takes (Some n) k ≡ nat_eq n k
takes_many n zero e = absurd (e refl)
takes_many n (suc k) e = refl

-- ---- a written type, by its parts

counted : (xs : List TypeExpr) → spec.count (types (map type_plain xs)) ≡ length xs
counted [] = refl
counted (x ∷ xs) = ap (λ k. k + 1) (counted xs) ∙ add-one (length xs)

-- those of a list
abbrev pub row_of : Facts → Place → List TypeExpr → Checked (List p.Written)
row_of f g xs = spec.writtens f g (types (map type_plain xs))

abbrev rest_of : Facts → Place → TypeExpr → ℕ → Checked p.Written
rest_of f g x k =
    and_then (spec.well_named f g (out-TypeExpr x).node.id (spec.head_named f g (out-TypeExpr x).head) k) (λ n.
    and_then (row_of f g (out-TypeExpr x).args) (λ args. Fine (spec.made (out-TypeExpr x).node (out-TypeExpr x).head_span (out-TypeExpr x).dims n args)))

pub written_out : (f : Facts) (g : Place) (x : TypeExpr)
    → spec.written f g (type_plain x) ≡ and_then (spec.well_named f g (out-TypeExpr x).node.id (spec.head_named f g (out-TypeExpr x).head) (length (out-TypeExpr x).args)) (λ n.
    and_then (row_of f g (out-TypeExpr x).args) (λ args. Fine (spec.made (out-TypeExpr x).node (out-TypeExpr x).head_span (out-TypeExpr x).dims n args)))
written_out f g x = ap (spec.written f g) (type_out x) ∙ ap (rest_of f g x) (counted (out-TypeExpr x).args)

-- ---- one more item of a list

front : (xs : List TypeExpr) (i : ℕ) (x : TypeExpr) → i < length xs → x ≡ get_or xs i x → types (map type_plain (drop i xs)) ≡ t.AndType (type_plain x) (types (map type_plain (drop (i + 1) xs)))
front xs i x low is =
    let next : suc i ≡ i + 1 = omega arith in
    ap (λ ys. types (map type_plain ys)) (drop-cons xs i x low ∙ ap (λ y. y ∷ drop (suc i) xs) (sym is))
    ∙ ap (λ k. t.AndType (type_plain x) (types (map type_plain (drop k xs)))) next

pub row_step : (f : Facts) (g : Place) (xs : List TypeExpr) (i : ℕ) (x : TypeExpr) (done after : List CoreType) (y : CoreType) (all : Checked (List p.Written))
    → i < length xs → x ≡ get_or xs i x → spec.written f g (type_plain x) ≡ Fine (view.written y) → after ≡ done ++ y ∷ []
    → behind (map view.written done) (row_of f g (drop i xs)) ≡ all → behind (map view.written after) (row_of f g (drop (i + 1) xs)) ≡ all
row_step f g xs i x done after y all low is fine more so_far =
    let rest : Checked (List p.Written) = row_of f g (drop (i + 1) xs) in
    ap (λ ds. behind (map view.written ds) rest) more
    ∙ last_of view.written done y rest
    ∙ sym (ap (λ c. behind (map view.written done) (and_then c (λ x. also x rest))) fine)
    ∙ sym (ap (λ ys. behind (map view.written done) (spec.writtens f g ys)) (front xs i x low is))
    ∙ so_far

pub row_stop : (f : Facts) (g : Place) (xs : List TypeExpr) (i : ℕ) (x : TypeExpr) (done : List CoreType) (n r : ℕ) (all : Checked (List p.Written))
    → i < length xs → x ≡ get_or xs i x → spec.written f g (type_plain x) ≡ Broken n r
    → behind (map view.written done) (row_of f g (drop i xs)) ≡ all → all ≡ Broken n r
row_stop f g xs i x done n r all low is broken so_far =
    let rest : Checked (List p.Written) = row_of f g (drop (i + 1) xs) in
    sym so_far
    ∙ ap (λ ys. behind (map view.written done) (spec.writtens f g ys)) (front xs i x low is)
    ∙ ap (λ c. behind (map view.written done) (and_then c (λ x. also x rest))) broken

pub row_end : (done : List CoreType) → behind (map view.written done) (Fine []) ≡ Fine (map view.written done)
row_end done = end_of (map view.written done)
