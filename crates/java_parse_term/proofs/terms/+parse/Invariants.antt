use Rattle.java_parse_term.proofs.terms.+parse.Given as goal

abbrev pub decreases-parse : goal.decreases-parse
decreases-parse l = l.limit
