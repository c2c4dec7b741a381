use Rattle.std.proofs.Common.{[], ap, ◌∙◌}
use Rattle.core_meaning.specs.declared.values.Value.TheVariants as v
use Rattle.core_meaning.specs.declared.values.Progress.TheVariants as progress
use Rattle.core_meaning.specs.State.{with_progress}
use Rattle.core_meaning.specs.Calls.{entered_with}
use Rattle.run_calls.specs.Opened.{opened}
use Rattle.run_calls.proofs.Opening.{started_leads}
use Rattle.run_calls.proofs.starts.start_deeper.Goals as goal

pub returns : goal.returns
returns c k known =
    let old = c.args.run.now in
    let d = c.args.depth in
    let j = c.args.class in
    let s = c.set_progress.new.state in
    let stack = c.push.new.self in
    let frame = entered_with v.Null [] in
    started_leads k d j c.initialise_above.result old c.open_frame.new.run c.initialise_above.new.run
    (c.in_ok-open_frame.ensures
    ∙ ap (λ xs. opened d (record { this = v.Null; slots = xs }) j (record old { state = s; stack = stack })) c.new-slots.ensures
    ∙ ap (λ t. opened d frame j (record old { state = t; stack = stack })) c.set_progress.ensures
    ∙ ap (λ xs. opened d frame j (record old { state = with_progress j progress.Running old.state; stack = xs })) c.in_ok-push.ensures)
    (c.initialise_above.ensures k known)
