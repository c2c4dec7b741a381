use Rattle.source_files.proofs.Parsing.{Parsing}
use Rattle.source_files.proofs.trees.parse_files.Given as goal

abbrev pub invariant-loop-file : goal.invariant-loop-file
invariant-loop-file l = Parsing l.texts l.file l.first l.count l.names l.units
