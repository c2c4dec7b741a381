use Rattle.run_expressions.proofs.waits.index_of.Goals as goal

pub returns : goal.returns
returns c k is = rw (← c.get.ensures) (c.evaluate.ensures k)
