use Rattle.program_runs.proofs.answers.give_value.Goals as goal

pub returns-in-Hash : goal.returns-in-Hash
returns-in-Hash c k i = rw c.in-Hash.is (c.say_hash.ensures k)

pub returns-in-Switch : goal.returns-in-Switch
returns-in-Switch c k i = rw c.in-Switch.is (c.switch.ensures k)

pub returns-in-Given : goal.returns-in-Given
returns-in-Given c k i = rw c.in-Given.is (c.give_static.ensures k)
