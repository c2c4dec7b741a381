use Rattle.std.proofs.Common.{ap, sym, ◌∙◌, rules}
use Rattle.java_core.specs.View.{plains, stmt_plain}
use Rattle.core_meaning.specs.declared.values.Ending.{Ending}
use Rattle.core_meaning.specs.declared.values.State.{State}
use Rattle.core_meaning.specs.Outcome.{Outcome, and_then}
use Rattle.core_meaning.specs.Expressions.{values}
use Rattle.core_meaning.specs.Statements.{and_updates, done, stmt}
use Rattle.run_frames.specs.Runs.{comes, place_of, whole}
use Rattle.run_frames.specs.Frames.{body_of}
use Rattle.run_frames.proofs.Steps.{ok_as}
use Rattle.run_statements.proofs.Parts.{body_turns, updated_turns}
use Rattle.run_statements.proofs.loops.run_body.Goals as goal

pub returns-in-While : goal.returns-in-While
returns-in-While c k =
    let old = c.args.run.now in
    ok_as c.execute.result (whole k c.execute.new.run) (comes k old) _ _ (body_turns (place_of k old) old.state c.args.of c.args.turns c.args.turn _ (ap (λ y. stmt (place_of k old) (stmt_plain y) old.state) c.get.ensures ∙ sym (ap (λ z. body_of (place_of k old) z old.state) c.in-While.is))) (c.execute.ensures k)

pub returns-in-Items : goal.returns-in-Items
returns-in-Items c k =
    let old = c.args.run.now in
    ok_as c.execute-in-Items.result (whole k c.execute-in-Items.new.run) (comes k old) _ _ (body_turns (place_of k old) old.state c.args.of c.args.turns c.args.turn _ (ap (λ y. stmt (place_of k old) (stmt_plain y) old.state) c.get-in-Items.ensures ∙ sym (ap (λ z. body_of (place_of k old) z old.state) c.in-Items.is))) (c.execute-in-Items.ensures k)

pub returns-in-Walk : goal.returns-in-Walk
returns-in-Walk c k =
    let old = c.args.run.now in
    ok_as c.execute-in-Walk.result (whole k c.execute-in-Walk.new.run) (comes k old) _ _ (body_turns (place_of k old) old.state c.args.of c.args.turns c.args.turn _ (ap (λ y. stmt (place_of k old) (stmt_plain y) old.state) c.get-in-Walk.ensures ∙ sym (ap (λ z. body_of (place_of k old) z old.state) c.in-Walk.is))) (c.execute-in-Walk.ensures k)

pub returns-in_ok-push-in-For : goal.returns-in_ok-push-in-For
returns-in_ok-push-in-For c k =
    let old = c.args.run.now in
    let p = place_of k old in
    let after : Ending → State → Outcome Ending = λ f s. and_updates f (λ s. done (values p (plains c.in-For.step.now) s)) s in
    let h = c.execute-in-For.ensures k in
    ok_as c.execute-in-For.result (whole k c.execute-in-For.new.run) (comes k old) _ _
    (updated_turns p old.state c.args.of c.args.turns c.args.turn (stmt p (stmt_plain c.get-in-For.result.now) old.state) after
    (ap (λ y. and_then (stmt p (stmt_plain y) old.state) after) c.get-in-For.ensures ∙ sym (ap (λ z. body_of p z old.state) c.in-For.is)))
    (search (rules, h))
