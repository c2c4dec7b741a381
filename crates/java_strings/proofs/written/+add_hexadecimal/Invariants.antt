use Rattle.java_strings.proofs.written.+add_hexadecimal.Given as goal

abbrev pub decreases-add_hexadecimal : goal.decreases-add_hexadecimal
decreases-add_hexadecimal l = l.n
