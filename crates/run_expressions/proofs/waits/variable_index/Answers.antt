use Rattle.run_expressions.proofs.waits.variable_index.Goals as goal

pub returns : goal.returns
returns c k is = rw (← c.get.ensures) (c.evaluate.ensures k)
