-- Measures of cores.
use Rattle.std.specs.Prelude.{ℕ, ◌+◌}
use Rattle.java_core.specs.Plain as p

abbrev mutual
  pub stmt_height : p.Stmt → ℕ
  stmt_height (p.Block n ss) = stmts_height ss + 1
  stmt_height (p.If n x a b) = stmt_height a + maybe_stmt_height b + 1
  stmt_height (p.While n x a) = stmt_height a + 1
  stmt_height (p.Do n a x) = stmt_height a + 1
  stmt_height (p.For n ss x xs a) = stmts_height ss + stmt_height a + 1
  stmt_height (p.ForEach n is_final w v x item implied a) = stmt_height a + 1
  stmt_height (p.Switch n x gs) = groups_height gs + 1
  stmt_height (p.Try n a cs b) = stmt_height a + catches_height cs + maybe_stmt_height b + 1
  stmt_height _ = 1

  pub maybe_stmt_height : p.MaybeStmt → ℕ
  maybe_stmt_height p.NoStmt = 0
  maybe_stmt_height (p.AStmt a) = stmt_height a + 1

  pub stmts_height : p.Stmts → ℕ
  stmts_height p.Last = 0
  stmts_height (p.Then a ss) = stmt_height a + stmts_height ss + 1

  pub groups_height : p.Groups → ℕ
  groups_height p.NoGroup = 0
  groups_height (p.AndGroup (p.Labelled n ls ss) gs) = stmts_height ss + groups_height gs + 1

  pub catches_height : p.Catches → ℕ
  catches_height p.NoCatch = 0
  catches_height (p.AndCatch (p.Caught n x a) cs) = stmt_height a + catches_height cs + 1
