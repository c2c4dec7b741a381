use Rattle.std.proofs.Common.{rules}
use Rattle.program_runs.proofs.resumes.to_variable.Goals.{in-Variable, in_default}
use Rattle.program_runs.proofs.resumes.to_variable.Goals as goal

pub returns : goal.returns
returns c k i = elim c.match-answer.branch [
  | in-Variable w ↦ let h = w.give_variable.ensures k i in search (rules, h)
  | in_default w ↦ let h = w.misfit.ensures k in search (rules, h)
]
