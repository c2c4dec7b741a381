use Rattle.std.proofs.Common.{sym, subst}
use Rattle.refactor_app.specs.declared.asked.Inputs.{Inputs}
use Rattle.refactor_app.specs.Words.{AsksCheck}
use Rattle.refactor_app.specs.Asked.{files_of}
use Rattle.refactor_app.proofs.Courses.{asks_check}
use Rattle.refactor_app.proofs.asked.task_of.Goals as goal

pub returns-then-is_check-clause-some : goal.returns-then-is_check-clause-some
returns-then-is_check-clause-some c ws asks =
    subst (λ (i : Inputs). AsksCheck ws (files_of i)) (sym c.inputs_in.ensures) (asks_check ws c.args.request.now asks (c.is_check.ensures.yes c.if-is_check.true))
