use Rattle.generalize_declared.proofs.Targets.{first_of}
use Rattle.generalize_declared.proofs.allowed.allowed_types.Goals as goal

pub returns-in-len1-up : goal.returns-in-len1-up
returns-in-len1-up c = λ fs are. first_of c.args.source.now.operations.now _ c.in-len1-up.len_at_least
