use Rattle.java_core.specs.View.{program_plain}
use Rattle.running_code.proofs.bodies.body_of.Goals as goal

pub body_in-requires : goal.body_in-requires
body_in-requires c = c.in_ok-entry.ensures.entry (program_plain c.args.g.now.core.now) c.requires.classes
