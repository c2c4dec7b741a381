use Rattle.std.proofs.Common.{Some, map, sym, ◌∙◌}
use Rattle.std.specs.String.{string_bytes}
use Rattle.core_meaning.specs.Runs.{main_class}
use Rattle.program_runs.proofs.Told.{answers_for}
use Rattle.program_runs.proofs.run_named.Goals as goal

pub returns-in-None : goal.returns-in-None
returns-in-None c k i = sym (c.main_class.ensures k i) ∙ c.in-None.is

pub returns-in-Some : goal.returns-in-Some
returns-in-Some c k i =
    answers_for k (Some c.in-Some.number) (main_class k c.args.users c.args.class.now) (map string_bytes c.args.args.now) c.args.steps c.reported.result
    (sym c.in-Some.is ∙ c.main_class.ensures k i) (c.reported.ensures k i)
