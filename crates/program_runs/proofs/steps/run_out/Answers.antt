use Rattle.std.proofs.Common.{rules}
use Rattle.program_runs.proofs.steps.run_out.Goals as goal

pub returns-in-Ends : goal.returns-in-Ends
returns-in-Ends c k i = let h = c.in_ok-next.ensures k i in let v = c.loop.invariant k i in search (rules, h, v)
