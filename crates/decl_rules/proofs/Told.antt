-- What tests on the code's trees say of the plain ones.
use Rattle.std.proofs.Common.{◌≡◌, ℕ, Bool, true, false, List, [], ◌∷◌, map, not, ◌↔◌, refl, ap}
use Rattle.java_tree.specs.declared.tree.TypeExpr.{TypeExpr, out-TypeExpr}
use Rattle.java_tree.specs.View as view
use Rattle.java_tree.specs.View.{type_plain}
use Rattle.java_tree.specs.Plain as t
use Rattle.java_tree.specs.declared.tree.Node.{Node}
use Rattle.java_tree.specs.declared.tree.Span.{Span}
use Rattle.java_tree.specs.declared.tree.Head.{Head}
use Rattle.java_tree.proofs.Views.{type_out}
use Rattle.decl_rules.specs.Walk as spec

args_by : (n : Node) (h : Head) (s : Span) (d : ℕ) (xs : List t.TypeExpr) (r : Bool) → (r ≡ true → xs ≡ []) → (xs ≡ [] → r ≡ true) → not r ≡ spec.has_args (t.Written n h s (view.types xs) d)
args_by n h s d [] r f g = ap not (g refl)
args_by n h s d (x ∷ xs) true f g = absurd (cc (f refl))
args_by n h s d (x ∷ xs) false f g = refl

none_mapped : (xs : List TypeExpr) → map type_plain xs ≡ [] → xs ≡ []
none_mapped [] e = refl
none_mapped (x ∷ xs) e = absurd (cc e)

pub args_told : (x : TypeExpr) (r : Bool) → (r ≡ true ↔ ((out-TypeExpr x).args ≡ [])) → not r ≡ spec.has_args (type_plain x)
args_told x r told =
    let o = out-TypeExpr x in
    rw (type_out x) (args_by o.node o.head o.head_span o.dims (map type_plain o.args) r (λ e. ap (map type_plain) (told.0 e)) (λ e. told.1 (none_mapped o.args e)))
