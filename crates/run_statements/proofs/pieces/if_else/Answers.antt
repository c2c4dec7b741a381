use Rattle.run_frames.specs.Runs.{comes, place_of, whole}
use Rattle.run_frames.proofs.Steps.{ok_as}
use Rattle.run_statements.proofs.Parts.{where_false}
use Rattle.run_statements.proofs.pieces.if_else.Goals as goal

pub returns-in-Truth-false : goal.returns-in-Truth-false
returns-in-Truth-false c k =
    let old = c.args.run.now in
    ok_as c.otherwise.result (whole k c.otherwise.new.run) (comes k old) _ _ (where_false (place_of k old) old.state c.args.value c.in-Truth-false.field-0 _ _ c.in-Truth-false.is c.in-Truth-false.field-0-test) (c.otherwise.ensures k)
