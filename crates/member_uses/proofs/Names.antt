-- What is no name.
use Rattle.std.proofs.Common.{◌≡◌, refl, sym, ap, ◌∙◌}
use Rattle.java_tree.specs.declared.tree.Node.{Node}
use Rattle.java_tree.specs.declared.tree.Name.{Name}
use Rattle.java_tree.specs.declared.tree.Expr.{Expr}
use Rattle.java_tree.specs.declared.tree.ExprForm.{ExprForm, out-ExprForm, roll-ExprForm, roll-out-ExprForm}
use Rattle.java_tree.specs.declared.tree.ExprForm.TheVariants as v
use Rattle.java_tree.specs.declared.tree.ExprForm.TheOpen as f
use Rattle.java_tree.specs.declared.tree.ExprForm.TheFolds.{fold-ExprForm, map-ExprForm}
use Rattle.java_tree.specs.Plain as t
use Rattle.java_tree.specs.View.{at_form, at_node, plain}
use Rattle.java_tree.proofs.Views.{plain_out}
use Rattle.type_facts.specs.Facts.{Facts}
use Rattle.type_facts.specs.declared.scope.Place.{Place}
use Rattle.type_facts.specs.declared.scope.LocalVar.{LocalVar}
use Rattle.std.specs.Prelude.{List}
use Rattle.member_uses.specs.Targets.{dotted, AValue}

-- one level of the view
abbrev level : f.ExprForm-F ExprForm Expr → Node → t.Expr
level L = at_form (map-ExprForm ExprForm Expr (Node → t.Expr) t.Expr (fold-ExprForm (Node → t.Expr) t.Expr at_form at_node) plain L)

level_no_name : (g : Facts) (p : Place) (ls : List LocalVar) (L : f.ExprForm-F ExprForm Expr) (n : Node) → ((x : Name) → L ≡ f.Name x → ⊥) → dotted g p ls (level L n) ≡ AValue
level_no_name g p ls (f.Name x) n h = absurd (h x refl)
level_no_name g p ls _ n h = refl

-- what is no simple name stands for a value before a dot
pub no_name : (g : Facts) (p : Place) (ls : List LocalVar) (e : Expr) → ((x : Name) → e.form ≡ v.Name x → ⊥) → dotted g p ls (plain e) ≡ AValue
no_name g p ls e h =
    ap (dotted g p ls) (plain_out e)
    ∙ level_no_name g p ls (out-ExprForm e.form) e.node (λ x i. h x (sym (roll-out-ExprForm e.form) ∙ ap roll-ExprForm i ∙ v.rolls-Name x))
