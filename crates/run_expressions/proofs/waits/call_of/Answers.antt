use Rattle.run_expressions.proofs.waits.call_of.Goals as goal

pub returns : goal.returns
returns c k is = c.evaluate_all.ensures k
