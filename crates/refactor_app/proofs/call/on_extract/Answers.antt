use Rattle.refactor_app.proofs.call.on_extract.Goals as goal

pub returns-in-Passed : goal.returns-in-Passed
returns-in-Passed g c = rw c.in-Passed.is (c.extraction-verdict.result, c.extraction-verdict.ensures, c.put_verdict.ensures)
