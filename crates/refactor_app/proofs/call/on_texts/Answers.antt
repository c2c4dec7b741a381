use Rattle.std.proofs.Common.{length, inl, inr, refl, sym, ◌∙◌, ap, arith}
use Rattle.std.specs.String.{string_bytes}
use Rattle.refactor_app.specs.Asked.{task_files}
use Rattle.refactor_app.specs.Stops.{TellsStop}
use Rattle.refactor_app.specs.Course as way
use Rattle.checked_files.proofs.Held.{held_long, held_small}
use Rattle.refactor_app.proofs.Courses.{map_length, made_so, broken}
use Rattle.refactor_app.proofs.call.on_texts.Goals as goal

pub parse_files-requires-clause-few : goal.parse_files-requires-clause-few
parse_files-requires-clause-few g c =
    let long = held_long _ 0 _ c.args.texts.now c.requires.held in
    let names = sym (map_length string_bytes c.args.names.now) ∙ ap length c.requires.names in
    omega (arith, long, names, c.requires.few)

pub parse_files-requires-clause-small : goal.parse_files-requires-clause-small
parse_files-requires-clause-small g c = held_small _ 0 _ c.args.texts.now c.requires.held

pub stop_line-requires-clause-names : goal.stop_line-requires-clause-names
stop_line-requires-clause-names g c = sym (map_length string_bytes c.args.names.now) ∙ ap length c.requires.names ∙ held_long _ 0 _ c.args.texts.now c.requires.held

pub stop_line-requires-clause-small : goal.stop_line-requires-clause-small
stop_line-requires-clause-small g c = held_small _ 0 _ c.args.texts.now c.requires.held

pub returns-in-Err : goal.returns-in-Err
returns-in-Err g c words asks few =
    let fs = task_files c.args.task.now in
    elim (made_so c.stop_line.result _ _ _ _ _ _ (TellsStop fs c.args.texts.now c.in-Err.stop) (c.stop_line.ensures fs (sym c.requires.names)) c.put_made.ensures.put c.put_made.ensures.none) [
      | inl h ↦ way.Course.refuses (broken words _ fs c.args.texts.now c.in-Err.stop h.0 (record { asks = few; held = c.requires.held }) c.in-Err.ensures h.1) refl h.2
      | inr none ↦ way.Course.no_memory refl none.1 none.0
    ]
