-- The node of a tree.
use Rattle.std.proofs.Common.{◌≡◌, Some, None, refl, ap, ◌∙◌}
use Rattle.java_tree.specs.declared.tree.Node.{Node}
use Rattle.java_tree.specs.declared.tree.Expr.{Expr}
use Rattle.java_tree.specs.declared.tree.ExprForm.TheOpen as o
use Rattle.java_tree.specs.Plain as t
use Rattle.java_tree.specs.View.{plain, at_form}
use Rattle.java_tree.proofs.Views.{plain_out}
use Rattle.check_expr.specs.Typed.{node_of}

at_form_node : (L : o.ExprForm-F (Node → t.Expr) t.Expr) (n : Node) → node_of (at_form L n) ≡ n
at_form_node (o.Number k d l) n = refl
at_form_node (o.Char x) n = refl
at_form_node (o.Text x) n = refl
at_form_node (o.Bool b) n = refl
at_form_node o.Null n = refl
at_form_node o.This n = refl
at_form_node (o.Name x) n = refl
at_form_node (o.Field a x) n = refl
at_form_node (o.SuperField x) n = refl
at_form_node (o.Index a b) n = refl
at_form_node (o.Call None x xs) n = refl
at_form_node (o.Call (Some a) x xs) n = refl
at_form_node (o.SuperMethod x xs) n = refl
at_form_node (o.New x xs) n = refl
at_form_node (o.NewArray x xs k) n = refl
at_form_node (o.NewFilled x a) n = refl
at_form_node (o.Items xs) n = refl
at_form_node (o.Paren a) n = refl
at_form_node (o.Unary op a) n = refl
at_form_node (o.Step up before a) n = refl
at_form_node (o.Cast x c a) n = refl
at_form_node (o.Binary op a b) n = refl
at_form_node (o.InstanceOf a x) n = refl
at_form_node (o.Cond a b c) n = refl
at_form_node (o.Assign op a b) n = refl

pub plain_node : (x : Expr) → node_of (plain x) ≡ x.node
plain_node x = ap node_of (plain_out x) ∙ at_form_node _ x.node
