use Rattle.std.proofs.Common.{map}
use Rattle.std.specs.String.{string_bytes}
use Rattle.java_core.specs.View.{program_plain}
use Rattle.program_runs.proofs.Told.{code_of, run_as}
use Rattle.program_runs.proofs.run_main.Goals as goal

pub returns : goal.returns
returns c =
    run_as c.args.world.now c.args.names.now (program_plain c.args.core.now) c.args.users c.args.class.now (map string_bytes c.args.args.now) c.args.steps c.run_named.result
    (λ k of. c.run_named.ensures k (code_of c.in_ok-g.g c.args.world.now c.args.names.now c.args.core.now c.args.members.now k c.in_ok-g.ensures.same of))
