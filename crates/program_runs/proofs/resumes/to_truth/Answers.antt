use Rattle.std.proofs.Common.{rules}
use Rattle.program_runs.proofs.resumes.to_truth.Goals.{in-Truth, in_default}
use Rattle.program_runs.proofs.resumes.to_truth.Goals as goal

pub returns : goal.returns
returns c k i = elim c.match-answer.branch [
  | in-Truth w ↦ let h = w.give_truth.ensures k i in search (rules, h)
  | in_default w ↦ let h = w.misfit.ensures k in search (rules, h)
]
