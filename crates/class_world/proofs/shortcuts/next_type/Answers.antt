use Rattle.std.proofs.Common.{◌≡◌, Some, refl}
use Rattle.std.specs.Prelude.{slice_get}
use Rattle.std.proofs.lemmas.Option.{slice_get_read}
use Rattle.class_world.proofs.Leaps.{row_leads}
use Rattle.class_world.proofs.shortcuts.next_type.Goals as goal

pub returns-in_ok-substituted-in-Some-shortcut : goal.returns-in_ok-substituted-in-Some-shortcut
returns-in_ok-substituted-in-Some-shortcut c =
    let rows = c.args.rows.now in
    let found = c.in-Some.ensures.lookup in
    let there : slice_get rows c.class_of.result ≡ Some c.in-Some.row.now = slice_get_read rows _ c.class_of.result c.in-Some.row.now refl found.3.0 found.1 in
    row_leads c.args.w.now c.requires.supers rows c.requires.shortcuts c.class_of.result c.in-Some.row.now c.args_of.result.now c.args.t.now c.in-Some-shortcut.s c.in_ok-substituted-in-Some-shortcut.field-0 there
    c.in-Some-shortcut.is c.class_of.ensures c.args_of.ensures c.in_ok-substituted-in-Some-shortcut.ensures
