use Rattle.java_parse_decl.proofs.Answered.{said, few, only}
use Rattle.java_parse_decl.proofs.read.unit_of.Goals as goal

pub returns-clause-found : goal.returns-clause-found
returns-clause-found c = said c.args.text.now c.args.toks.now c.unit.result c.unit.ensures

pub returns-clause-few : goal.returns-clause-few
returns-clause-few c = few c.args.text.now c.args.toks.now c.unit.result c.unit.ensures

pub returns-clause-only : goal.returns-clause-only
returns-clause-only c = only c.args.text.now c.args.toks.now c.unit.result c.unit.ensures
