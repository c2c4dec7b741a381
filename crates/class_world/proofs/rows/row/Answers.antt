use Rattle.std.proofs.Common.{◌≡◌, ◌∙◌, length, ap}
use Rattle.class_world.proofs.Words.{words_back}
use Rattle.class_world.proofs.Collected.{row_of_parts}
use Rattle.class_world.proofs.rows.row.Goals as goal

pub returns : goal.returns
returns c =
    let size : length c.fill.new.words ≡ length c.in_ok-types.types.items = c.fill.auto.words ∙ ap length c.as_mut_slice.ensures.value in
    row_of_parts c.args.w.now c.args.c c.args.info.now.params _ c.fill.new.words c.in_ok-raw_bases.raw_bases.items
    (c.from_vec.ensures ∙ words_back c.fill.new.words c.in_ok-types.types.items c.in_ok-types.types.len size c.in_ok-types.types.ok.0) c.from_vec-2.ensures c.fill.ensures c.in_ok-raw_bases.ensures c.in_ok-shortcut.ensures
