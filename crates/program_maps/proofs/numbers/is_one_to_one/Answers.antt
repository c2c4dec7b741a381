use Rattle.program_maps.proofs.Counting.{one_to_one}
use Rattle.program_maps.proofs.numbers.is_one_to_one.Goals as goal

pub returns-clause-so : goal.returns-clause-so
returns-clause-so c = λ h. one_to_one c.args.numbers.now (c.all_lead_back.ensures.0 h)
