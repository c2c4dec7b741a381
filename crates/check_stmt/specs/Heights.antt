-- A measure of the check.
use Rattle.std.specs.Prelude.{ℕ, ◌+◌}
use Rattle.java_tree.specs.Plain as t
use Rattle.java_tree.specs.Plain.{Stmt, Stmts, MaybeStmt, Group, Groups, Catch, Catches}

abbrev mutual
  pub stmt_height : Stmt → ℕ
  stmt_height (t.Block n ss) = stmts_height ss + 2
  stmt_height (t.If n e a b) = stmt_height a + maybe_height b + 1
  stmt_height (t.While n e a) = stmt_height a + 1
  stmt_height (t.Do n a e) = stmt_height a + 1
  stmt_height (t.For n ss e es a) = stmts_height ss + stmt_height a + 3
  stmt_height (t.ForEach n is_final x name e a) = stmt_height a + 3
  stmt_height (t.Switch n e gs) = groups_height gs + 3
  stmt_height (t.Try n a cs b) = stmt_height a + catches_height cs + maybe_height b + 1
  stmt_height _ = 1

  pub maybe_height : MaybeStmt → ℕ
  maybe_height t.NoStmt = 0
  maybe_height (t.AStmt a) = stmt_height a

  pub stmts_height : Stmts → ℕ
  stmts_height t.Last = 0
  stmts_height (t.Then a ss) = stmt_height a + stmts_height ss + 1

  pub group_height : Group → ℕ
  group_height (t.Labelled n es ss) = stmts_height ss

  pub groups_height : Groups → ℕ
  groups_height t.NoGroup = 0
  groups_height (t.AndGroup a gs) = group_height a + groups_height gs + 1

  pub catch_height : Catch → ℕ
  catch_height (t.Caught n x a) = stmt_height a + 2

  pub catches_height : Catches → ℕ
  catches_height t.NoCatch = 0
  catches_height (t.AndCatch a cs) = catch_height a + catches_height cs + 1
