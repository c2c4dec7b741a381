use Rattle.java_parse_expr.proofs.stmt.+under.Given as goal

abbrev pub decreases-under : goal.decreases-under
decreases-under l = l.limit
