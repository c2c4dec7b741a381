use Rattle.std.proofs.Common.{sym, ap, ◌∙◌}
use Rattle.core_meaning.specs.Outcome.{Gives, finally, with_some}
use Rattle.run_frames.specs.Frames.{ended}
use Rattle.run_frames.specs.Runs.{comes, place_of, whole}
use Rattle.run_frames.proofs.Steps.{ok_as}
use Rattle.run_statements.specs.Parts.{last_block}
use Rattle.program_runs.proofs.Wrong.{endings_of}
use Rattle.program_runs.proofs.resumes.to_finally.Goals as goal

pub returns-in-Some : goal.returns-in-Some
returns-in-Some c k =
    let old = c.args.run.now in
    let s = old.state in
    let e = ap (λ x. with_some x s (λ e. Gives e s)) (sym (sym c.ending_in.ensures ∙ c.in-Some.is)) ∙ endings_of c.args.answer s in
    ok_as c.finally_ended.result (whole k c.finally_ended.new.run) (comes k old) _ _ (ap (λ o. ended (finally o (last_block c.args.last.now (place_of k old)))) e) (c.finally_ended.ensures k)

pub returns-in-None : goal.returns-in-None
returns-in-None c k =
    let old = c.args.run.now in
    let s = old.state in
    let e = ap (λ x. with_some x s (λ e. Gives e s)) (sym (sym c.ending_in.ensures ∙ c.in-None.is)) ∙ endings_of c.args.answer s in
    ok_as c.finally_wrong.result (whole k c.finally_wrong.new.run) (comes k old) _ _ (ap (λ o. ended (finally o (last_block c.args.last.now (place_of k old)))) e) (c.finally_wrong.ensures k)
