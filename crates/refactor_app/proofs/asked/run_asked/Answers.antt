use Rattle.std.proofs.Common.{refl}
use Rattle.refactor_app.proofs.Courses.{none_so, run_words}
use Rattle.refactor_app.proofs.asked.run_asked.Goals as goal

pub returns-in-Run-clause-none : goal.returns-in-Run-clause-none
returns-in-Run-clause-none c =
    let r = c.args.request.now in
    let meets = c.requires.1.meets in
    none_so c.run_of.result (λ none is. none (run_words r is ((meets 2).shape refl) ((meets 3).numbers refl))) c.run_of.ensures.none
