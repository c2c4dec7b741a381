use Rattle.std.proofs.Common.{subst, sym}
use Rattle.refactor_app.specs.Marked.{AreTables}
use Rattle.refactor_app.proofs.extract.kept_lines.Goals as goal

pub listed_lines-requires-clause-tables : goal.listed_lines-requires-clause-tables
listed_lines-requires-clause-tables c = subst (AreTables c.args.texts.now) (sym c.as_slice-2.ensures) c.in_ok-tables.ensures
