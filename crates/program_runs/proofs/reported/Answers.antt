use Rattle.std.proofs.Common.{[], false, map, ap, ◌∙◌}
use Rattle.std.specs.String.{string_bytes}
use Rattle.core_meaning.specs.Runs.{report, run}
use Rattle.program_runs.proofs.Told.{told_of}
use Rattle.program_runs.proofs.reported.Goals as goal

pub returns : goal.returns
returns c k i =
    let x = c.in_ok-piece.piece in
    let told = told_of k x.ended x.state (run k c.args.class (map string_bytes c.args.args.now) c.args.steps) (c.in_ok-piece.ensures k i) in
    let printed = ap (λ xs. report k (record { printed = xs; entered = []; end = c.end_of-end.result; wrong = false })) c.as_slice.ensures in
    let end = ap (λ e. report k (record { printed = x.state.printed; entered = []; end = e; wrong = false })) c.end_of-end.ensures in
    (c.in_ok-report.ensures k i ∙ printed ∙ end ∙ told.0, c.end_of-end.ensures ∙ told.1)
