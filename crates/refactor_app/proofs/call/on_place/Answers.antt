use Rattle.refactor_app.proofs.call.on_place.Goals as goal

pub returns-in-Passed : goal.returns-in-Passed
returns-in-Passed g c = λ p is. rw c.in-Passed.is (c.decide-verdict.result, c.decide-verdict.ensures p is, c.put_verdict.ensures)
