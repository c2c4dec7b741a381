use Rattle.decl_rules.proofs.Told.{args_told}
use Rattle.decl_rules.proofs.types.has_args.Goals as goal

pub returns : goal.returns
returns c = args_told c.args.x.now c.is_empty.result c.is_empty.ensures
