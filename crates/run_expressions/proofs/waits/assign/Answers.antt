use Rattle.run_expressions.proofs.waits.assign.Goals as goal

pub returns : goal.returns
returns c k is = rw (← c.get.ensures) (c.evaluate.ensures k)
