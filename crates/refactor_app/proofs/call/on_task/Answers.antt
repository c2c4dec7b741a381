use Rattle.std.proofs.Common.{length, refl, sym, ◌∙◌, ap, arith}
use Rattle.std.specs.String.{string_bytes}
use Rattle.refactor_app.specs.Words.{Files, inputs}
use Rattle.refactor_app.specs.Asked.{task_files, task_steps}
use Rattle.refactor_app.specs.Course as way
use Rattle.refactor_app.specs.Refusals as refusal
use Rattle.refactor_app.proofs.Courses.{map_length, run_of, steps_of, uses_of}
use Rattle.refactor_app.proofs.call.on_task.Goals as goal

pub returns-then-len-gt-MOST_FILES : goal.returns-then-len-gt-MOST_FILES
returns-then-len-gt-MOST_FILES g c words asks =
    let long = sym (map_length string_bytes c.in-Ok.names) ∙ ap length c.in-Ok.ensures ∙ ap (λ (fs : Files). length (inputs fs)) c.inputs-inputs.ensures in
    way.Course.refuses (refusal.Refusal.l1 (task_files c.args.task.now) (uses_of words c.args.task.now asks) (omega (arith, long))) refl c.put.ensures

pub returns-then-steps-gt-MOST_STEPS : goal.returns-then-steps-gt-MOST_STEPS
returns-then-steps-gt-MOST_STEPS g c words asks =
    let t = c.args.task.now in
    let long = sym (map_length string_bytes c.in-Ok.names) ∙ ap length c.in-Ok.ensures ∙ ap (λ (fs : Files). length (inputs fs)) c.inputs-inputs.ensures in
    let steps = c.steps.ensures in
    way.Course.refuses (refusal.Refusal.l9 (task_files t) (task_steps t) (run_of words t asks (omega (arith, steps))) (omega (arith, long)) (omega (arith, steps))) refl c.put-then-steps-gt-MOST_STEPS.ensures

pub returns-in-Ok : goal.returns-in-Ok
returns-in-Ok g c words asks =
    let t = c.args.task.now in
    let long = sym (map_length string_bytes c.in-Ok.names) ∙ ap length c.in-Ok.ensures ∙ ap (λ (fs : Files). length (inputs fs)) c.inputs-inputs.ensures in
    let steps = c.steps.ensures in
    c.on_files.ensures words asks (record { uses = uses_of words t asks; few = omega (arith, long); short = λ n run. let same = steps_of words t n asks run in omega (arith, same, steps) })
