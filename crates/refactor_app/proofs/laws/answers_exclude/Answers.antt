use Rattle.refactor_app.proofs.Excluding.{usage, missing, threw, bound}
use Rattle.refactor_app.proofs.laws.answers_exclude.Goals as goal

pub returns-clause-usage : goal.returns-clause-usage
returns-clause-usage c = usage

pub returns-clause-missing : goal.returns-clause-missing
returns-clause-missing c = missing

pub returns-clause-threw : goal.returns-clause-threw
returns-clause-threw c = threw

pub returns-clause-bound : goal.returns-clause-bound
returns-clause-bound c = bound
