use Rattle.extract_interface.proofs.Lists.{first_of}
use Rattle.extract_interface.proofs.command.extract_interface.Goals as goal

pub returns-in-len1-up : goal.returns-in-len1-up
returns-in-len1-up c = first_of c.args.source.now.operations.now _ c.in-len1-up.len_at_least
