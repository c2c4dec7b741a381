use Rattle.program_runs.proofs.answers.give_nothing.Goals as goal

pub returns-in-StoreStatic : goal.returns-in-StoreStatic
returns-in-StoreStatic c k i = rw c.in-StoreStatic.is (c.store_static.ensures k)
