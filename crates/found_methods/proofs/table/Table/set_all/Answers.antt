use Rattle.std.proofs.Common.{◌∙◌, get_or, arith}
use Rattle.std.proofs.lemmas.List.Elements.{Contains-get_or}
use Rattle.std.proofs.lemmas.Option.{slice_get-get_or}
use Rattle.found_methods.proofs.Overlays.{overlay_next, overlay_ends}
use Rattle.found_methods.proofs.table.Table.set_all.Goals as goal

pub set-requires-clause-key : goal.set-requires-clause-key
set-requires-clause-key c =
    let entries = c.args.entries.now in
    let i = c.loop-entry.entry-index in
    let e = get_or entries i (0, 0) in
    let lt = c.requires.keys e.0 e.1 (Contains-get_or entries i (0, 0) c.loop-entry-test.true) in
    let same = c.loop-entry.invariant.size.keys in
    omega (arith, lt, same)

pub loop-entry-preserved : goal.loop-entry-preserved
loop-entry-preserved c =
    let entries = c.args.entries.now in
    let i = c.loop-entry.entry-index in
    let e = get_or entries i (0, 0) in
    let before = c.loop-entry.invariant.size in
    let step = c.in_ok-set.ensures.size in
    record {
      size = record { rows = step.rows ∙ before.rows; keys = step.keys ∙ before.keys };
      overlay = λ value are.
          overlay_next c.args.self.now c.loop-entry.self c.set.new.self c.args.row value entries i e.0 e.1 are (c.loop-entry.invariant.overlay value are) (slice_get-get_or entries i (0, 0) c.loop-entry-test.true)
          c.in_ok-set.ensures.written;
    }

pub returns-clause-overlaid : goal.returns-clause-overlaid
returns-clause-overlaid c value are =
    overlay_ends c.args.self.now c.loop-entry.self c.args.row value c.args.entries.now c.loop-entry.entry-index are c.loop-entry-test.false (c.loop-entry.invariant.overlay value are)
