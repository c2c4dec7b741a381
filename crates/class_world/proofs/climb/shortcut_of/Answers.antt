use Rattle.std.proofs.Common.{sym, ap, ◌∙◌, subst}
use Rattle.std.specs.Prelude.{IfSome}
use Rattle.std.specs.Option.{option_copied}
use Rattle.class_world.specs.Sound.{IsShortcut}
use Rattle.class_world.proofs.Ways.{row_of}
use Rattle.class_world.proofs.climb.shortcut_of.Goals as goal

pub returns-in-Some-shortcut : goal.returns-in-Some-shortcut
returns-in-Some-shortcut c = λ info at.
    let w = c.args.w.now in
    let row = row_of w c.requires c.args.c info c.in-Some.row.now at (sym c.get.ensures.value ∙ ap option_copied c.in-Some.is) in
    subst (λ o. IfSome o (λ t. IsShortcut w c.args.c info.params t)) c.in-Some-shortcut.is row.shortcut
