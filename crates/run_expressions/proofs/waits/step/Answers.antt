use Rattle.run_expressions.proofs.waits.step.Goals as goal

pub returns : goal.returns
returns c k is = rw (← c.get.ensures) (c.evaluate_current.ensures k)
