use Rattle.std.proofs.Common.{◌≡◌, ◌<◌, Some, length, refl, arith}
use Rattle.std.specs.Prelude.{slice_get}
use Rattle.std.proofs.lemmas.Option.{slice_get_read}
use Rattle.class_world.proofs.Meets.{rows_written}
use Rattle.class_world.proofs.class_rows.add_row.Goals as goal

pub returns-in_ok-row-clause-rows : goal.returns-in_ok-row-clause-rows
returns-in_ok-row-clause-rows c =
    let found = c.in-Some.ensures.lookup in
    let at : slice_get c.args.listed.now c.args.place ≡ Some c.in-Some.c.now = slice_get_read c.args.listed.now _ c.args.place c.in-Some.c.now refl found.3.0 found.1 in
    let lt : c.in-Some.c.now < length c.args.rows.now.items = omega (arith, c.requires.len, c.requires.sequence.known c.args.place c.in-Some.c.now at) in
    rows_written c.args.w.now c.args.listed.now c.args.rows.now.items c.in-Some.c.now c.in_ok-row.row c.requires.rows lt c.in_ok-row.ensures
