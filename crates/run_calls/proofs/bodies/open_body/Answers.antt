use Rattle.std.proofs.Common.{ap, ◌∙◌}
use Rattle.running_code.specs.Bodies.{body_plain}
use Rattle.run_calls.specs.Opened.{opened}
use Rattle.run_calls.proofs.Opening.{opened_leads}
use Rattle.run_calls.proofs.bodies.open_body.Goals as goal

pub returns : goal.returns
returns c k =
    let old = c.args.run.now in
    opened_leads k c.args.depth c.args.class c.args.method (body_plain c.args.code) c.args.frame c.begin_body.result old c.open_frame.new.run c.begin_body.new.run
    (c.in_ok-open_frame.ensures ∙ ap (λ s. opened c.args.depth c.args.frame c.args.class (record old { state = s })) c.in_ok-add_entered.ensures) (c.begin_body.ensures k)
