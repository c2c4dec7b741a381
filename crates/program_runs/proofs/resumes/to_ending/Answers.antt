use Rattle.std.proofs.Common.{rules}
use Rattle.program_runs.proofs.resumes.to_ending.Goals.{in-Ending, in_default}
use Rattle.program_runs.proofs.resumes.to_ending.Goals as goal

pub returns : goal.returns
returns c k i = elim c.match-answer.branch [
  | in-Ending w ↦ let h = w.give_ending.ensures k i in search (rules, h)
  | in_default w ↦ let h = w.misfit.ensures k in search (rules, h)
]
