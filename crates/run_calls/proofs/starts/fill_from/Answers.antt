use Rattle.java_core.specs.View.{field_plain}
use Rattle.core_meaning.specs.Code.{class_at, class_fields}
use Rattle.run_frames.specs.Runs.{comes, place_of, whole}
use Rattle.run_frames.proofs.Steps.{ok_as}
use Rattle.run_calls.proofs.Fields.{next_filled}
use Rattle.run_calls.proofs.starts.fill_from.Goals as goal

pub returns-in_ok-push-in-Some : goal.returns-in_ok-push-in-Some
returns-in_ok-push-in-Some c k known =
    let old = c.args.run.now in
    let h = rw c.in_ok-push-in-Some.ensures at (c.fill_one.ensures k known) in
    ok_as c.fill_one.result (whole k c.fill_one.new.run) (comes k old) _ _
    (next_filled (λ x. field_plain x.now) c.fields_of.result.now (class_fields (class_at k c.args.class)) c.args.at (c.fields_of.ensures k known) (place_of k old)
    c.in-Some.field.now old.state c.in-Some.ensures.lookup.3.0 c.in-Some.ensures.lookup.1) h
