use Rattle.std.proofs.Common.{sym, ap, ◌∙◌}
use Rattle.core_meaning.specs.Outcome.{and_then, with_some}
use Rattle.core_meaning.specs.Variables.{fitted, store}
use Rattle.core_meaning.specs.Expressions.{binary}
use Rattle.run_frames.specs.Frames.{valued}
use Rattle.run_frames.specs.Runs.{comes, place_of, whole}
use Rattle.run_frames.proofs.Steps.{ok_as}
use Rattle.run_calls.proofs.Invoking.{both_wait}
use Rattle.run_calls.proofs.texts.compound.Goals as goal

pub returns-in_ok-push-in-Some-2 : goal.returns-in_ok-push-in-Some-2
returns-in_ok-push-in-Some-2 c k known =
    let old = c.args.run.now in
    let p = place_of k old in
    let h = rw (c.in_ok-push-in-Some-2.ensures, c.in_ok-push-in-Some.ensures) at (c.binary.ensures k known) in
    ok_as c.binary.result (whole k c.binary.new.run) (comes k old) _ _
    (both_wait (binary p c.args.op c.args.kind c.in-Some.left c.args.right old.state) (λ a s. fitted c.args.ty.now a s) (λ a s. store p c.args.to a s)
    ∙ ap (λ m. valued (and_then (with_some m old.state (λ a. and_then (binary p c.args.op c.args.kind a c.args.right old.state) (λ a s. fitted c.args.ty.now a s))) (λ a s. store p c.args.to a s)))
    (sym c.in-Some.is ∙ c.as_kind.ensures)) h
