-- A measure of cores.
use Rattle.std.specs.Prelude.{ℕ, ◌+◌}
use Rattle.java_core.specs.Plain as p

abbrev mutual
  pub type_height : p.Written → ℕ
  type_height (p.AType n head ty ts) = types_height ts + 1

  pub types_height : p.Writtens → ℕ
  types_height p.NoTypes = 0
  types_height (p.AndType t ts) = type_height t + types_height ts + 1

abbrev mutual
  pub height : p.Expr → ℕ
  height (p.At n t x) = form_height x + 1

  pub form_height : p.Form → ℕ
  form_height (p.Implied x) = height x
  form_height (p.Widen x) = height x
  form_height (p.Paren x) = height x
  form_height (p.Field x simple k) = height x
  form_height (p.StaticField before x k) = maybe_height x
  form_height (p.Length x) = height x
  form_height (p.Index x y) = height x + height y
  form_height (p.Call x simple k xs) = height x + heights xs
  form_height (p.SuperCall k xs) = heights xs
  form_height (p.StaticCall before x k xs) = maybe_height x + heights xs
  form_height (p.New w k xs) = heights xs
  form_height (p.NewArray w xs) = heights xs
  form_height (p.NewFilled w x) = height x
  form_height (p.Filled xs) = heights xs
  form_height (p.Unary op x) = height x
  form_height (p.Step up before x) = height x
  form_height (p.Cast w close x) = height x
  form_height (p.Binary op kind x y) = height x + height y
  form_height (p.Logic both x y) = height x + height y
  form_height (p.InstanceOf x w) = height x
  form_height (p.Cond x y z) = height x + height y + height z
  form_height (p.Assign x y) = height x + height y
  form_height (p.Compound op kind x y) = height x + height y
  form_height _ = 0

  pub maybe_height : p.MaybeExpr → ℕ
  maybe_height p.NoExpr = 0
  maybe_height (p.AnExpr x) = height x + 1

  pub heights : p.Exprs → ℕ
  heights p.End = 0
  heights (p.Also x xs) = height x + heights xs + 1

abbrev mutual
  pub stmt_height : p.Stmt → ℕ
  stmt_height (p.Block n ss) = stmts_height ss + 1
  stmt_height (p.If n x a b) = stmt_height a + maybe_stmt_height b + 1
  stmt_height (p.While n x a) = stmt_height a + 1
  stmt_height (p.Do n a x) = stmt_height a + 1
  stmt_height (p.For n ss x xs a) = stmts_height ss + stmt_height a + 1
  stmt_height (p.ForEach n is_final w v x item implied a) = stmt_height a + 1
  stmt_height (p.Switch n x gs) = groups_height gs + 1
  stmt_height (p.Try n a cs b) = stmt_height a + catches_height cs + maybe_stmt_height b + 1
  stmt_height _ = 1

  pub maybe_stmt_height : p.MaybeStmt → ℕ
  maybe_stmt_height p.NoStmt = 0
  maybe_stmt_height (p.AStmt a) = stmt_height a + 1

  pub stmts_height : p.Stmts → ℕ
  stmts_height p.Last = 0
  stmts_height (p.Then a ss) = stmt_height a + stmts_height ss + 1

  pub groups_height : p.Groups → ℕ
  groups_height p.NoGroup = 0
  groups_height (p.AndGroup (p.Labelled n ls ss) gs) = stmts_height ss + groups_height gs + 1

  pub catches_height : p.Catches → ℕ
  catches_height p.NoCatch = 0
  catches_height (p.AndCatch (p.Caught n x a) cs) = stmt_height a + catches_height cs + 1
