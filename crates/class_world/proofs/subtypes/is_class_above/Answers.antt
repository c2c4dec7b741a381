use Rattle.std.proofs.Common.{sym, ap, ◌∙◌}
use Rattle.std.specs.Option.{option_copied}
use Rattle.class_world.proofs.Decides as by
use Rattle.class_world.proofs.subtypes.is_class_above.Goals as goal

pub returns-in-Some : goal.returns-in-Some
returns-in-Some c = λ args.
    by.class_above_told c.args.w.now c.requires.sound _ c.args.c c.args.g args c.in-Some.row.now c.as_slice.result.now c.requires.known
    (sym c.get.ensures.value ∙ ap option_copied c.in-Some.is) c.as_slice.ensures c.is_set.ensures
