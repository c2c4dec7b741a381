use Rattle.method_ties.specs.Tables.{IsKeyedAbove}
use Rattle.method_ties.proofs.Firsts.{once_rising}
use Rattle.method_ties.proofs.Numbering.{tables_made}
use Rattle.method_ties.proofs.replace.number_long.Goals as goal

pub make-requires-clause-once : goal.make-requires-clause-once
make-requires-clause-once c = once_rising c.args.listed.now c.requires.listed.1

pub returns-clause-tables : goal.returns-clause-tables
returns-clause-tables c =
    tables_made c.args.w.now (IsKeyedAbove c.args.w.now) c.args.listed.now c.args.key c.args.tables.now c.make.new.self c.requires.tables c.in_ok-make.ensures c.requires.listed.0
