-- A measure of the check.
use Rattle.std.specs.Prelude.{ℕ, ◌+◌}
use Rattle.java_tree.specs.Plain as t
use Rattle.java_tree.specs.Plain.{Expr, Exprs, MaybeExpr}

abbrev mutual
  pub height : Expr → ℕ
  height (t.Field n e x) = height e + 1
  height (t.Index n a b) = height a + height b + 1
  height (t.Call n of x es) = target_height of + heights es + 1
  height (t.SuperMethod n x es) = heights es + 1
  height (t.New n x es) = heights es + 1
  height (t.NewArray n x es k) = heights es + 1
  height (t.NewFilled n x e) = height e + 2
  height (t.Items n es) = heights es + 1
  height (t.Paren n e) = height e + 1
  height (t.Unary n op e) = height e + 1
  height (t.Step n up before e) = height e + 1
  height (t.Cast n x k e) = height e + 1
  height (t.Binary n op a b) = height a + height b + 1
  height (t.InstanceOf n e x) = height e + 1
  height (t.Cond n a b c) = height a + height b + height c + 1
  height (t.Assign n op a b) = height a + height b + 1
  height _ = 1

  pub target_height : MaybeExpr → ℕ
  target_height t.NoExpr = 0
  target_height (t.AnExpr e) = height e

  pub heights : Exprs → ℕ
  heights t.End = 0
  heights (t.Also e es) = height e + heights es + 1

abbrev pub thrice : ℕ → ℕ
thrice n = n + n + n
