use Rattle.std.proofs.Common.{◌<◌, sym, ap, ◌∙◌, subst, Some, length, arith}
use Rattle.std.specs.Option.{option_copied}
use Rattle.class_world.specs.Merged.{HasRow, HaveShortcuts}
use Rattle.class_world.proofs.Transports.{row_written, row_kept, shortcuts_written}
use Rattle.class_world.proofs.order_table.add_row.Goals as goal

pub row-requires-clause-rows : goal.row-requires-clause-rows
row-requires-clause-rows c = λ k d there g args e.
    let at = sym c.get.ensures.value ∙ ap option_copied c.in-Some.is in
    subst (λ rows. HasRow c.args.w.now rows g) (sym c.as_slice.ensures.value) (c.requires.above g args (c.in-Some.info.now, at, k, there ∙ ap (λ d. Some d) e))

pub returns-in_ok-row-clause-kept : goal.returns-in_ok-row-clause-kept
returns-in_ok-row-clause-kept c = λ g has.
    let at = sym c.get.ensures.value ∙ ap option_copied c.in-Some.is in
    let lt : c.args.c < length c.args.rows.now.items = omega (arith, c.requires.within, c.requires.len) in
    row_kept c.args.w.now c.args.rows.now.items c.args.c g c.in-Some.info.now c.in_ok-row.row at c.in_ok-row.ensures lt has

pub returns-in_ok-row-clause-row : goal.returns-in_ok-row-clause-row
returns-in_ok-row-clause-row c =
    let at = sym c.get.ensures.value ∙ ap option_copied c.in-Some.is in
    let lt : c.args.c < length c.args.rows.now.items = omega (arith, c.requires.within, c.requires.len) in
    row_written c.args.w.now c.args.rows.now.items c.args.c c.in-Some.info.now c.in_ok-row.row at c.in_ok-row.ensures lt

pub row-requires-clause-shortcuts : goal.row-requires-clause-shortcuts
row-requires-clause-shortcuts c = subst (HaveShortcuts c.args.w.now) (sym c.as_slice.ensures.value) c.requires.shortcuts

pub returns-in_ok-row-clause-shortcuts : goal.returns-in_ok-row-clause-shortcuts
returns-in_ok-row-clause-shortcuts c =
    let at = sym c.get.ensures.value ∙ ap option_copied c.in-Some.is in
    let lt : c.args.c < length c.args.rows.now.items = omega (arith, c.requires.within, c.requires.len) in
    shortcuts_written c.args.w.now c.args.rows.now.items c.args.c c.in-Some.info.now c.in_ok-row.row at c.in_ok-row.ensures lt c.requires.shortcuts
