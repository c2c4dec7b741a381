use Rattle.program_runs.proofs.answers.give_ending.Goals as goal

pub returns-in-Loop : goal.returns-in-Loop
returns-in-Loop c k i = rw c.in-Loop.is (c.after_body.ensures k i)

pub returns-in-Updates : goal.returns-in-Updates
returns-in-Updates c k i = rw c.in-Updates.is (c.updates.ensures k)
