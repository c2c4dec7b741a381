use Rattle.refactor_app.proofs.Asking.{one_request, one_extraction, one_files}
use Rattle.refactor_app.proofs.laws.one_request.Goals as goal

pub returns-clause-change : goal.returns-clause-change
returns-clause-change c words a b x y = one_request words a b x y

pub returns-clause-extraction : goal.returns-clause-extraction
returns-clause-extraction c words a b x y = one_extraction words a b x y

pub returns-clause-files : goal.returns-clause-files
returns-clause-files c words a b x y = one_files words a b x y
