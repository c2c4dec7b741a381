use Rattle.std.proofs.Common.{map, refl, subst}
use Rattle.java_tree.specs.View.{unit_plain}
use Rattle.decl_table.specs.Program.{Program}
use Rattle.decl_table.specs.Judged.{IsJudged}
use Rattle.decl_table.proofs.program.build.Goals as goal

pub returns-in-Ok-Refused-clause-built : goal.returns-in-Ok-Refused-clause-built
returns-in-Ok-Refused-clause-built c =
    let p : Program = record { words = c.in-Ok.words; user = map unit_plain c.args.user.now; lib = map unit_plain c.args.lib.now } in
    (p, (refl, refl, c.in-Ok.ensures.words), subst (IsJudged c.of.new.names p) c.in-Ok-Refused.field-0-is c.in-Ok-Refused.ensures)
