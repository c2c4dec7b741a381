use Rattle.std.proofs.Common.{sym, ap, ◌∙◌}
use Rattle.std.specs.Option.{option_copied}
use Rattle.member_methods.specs.Keys.{found_in}
use Rattle.member_methods.proofs.Numbers.{number_kept, number_only}
use Rattle.member_methods.proofs.keys.number_of.Goals as goal

pub returns-in_ok-insert-in-None-clause-kept : goal.returns-in_ok-insert-in-None-clause-kept
returns-in_ok-insert-in-None-clause-kept c =
    number_kept (found_in c.args.keys.now) (found_in c.insert.new.self) c.args.key c.args.next c.in_ok-insert-in-None.ensures.updates.0 (sym c.get.ensures.value ∙ ap option_copied c.in-None.is)

pub returns-in_ok-insert-in-None-clause-only : goal.returns-in_ok-insert-in-None-clause-only
returns-in_ok-insert-in-None-clause-only c =
    number_only (found_in c.args.keys.now) (found_in c.insert.new.self) c.args.key c.args.next c.in_ok-insert-in-None.ensures.updates.0 (sym c.get.ensures.value ∙ ap option_copied c.in-None.is)
