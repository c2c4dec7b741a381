use Rattle.std.proofs.Common.{subst}
use Rattle.class_world.specs.Sorts.{IsSorted}
use Rattle.class_world.proofs.Orders.{class_supers}
use Rattle.class_world.proofs.Ranks.{not_above_itself}
use Rattle.class_world.proofs.sequence.supers_first.Goals as goal

pub unreachable-requires : goal.unreachable-requires
unreachable-requires c =
    not_above_itself c.args.w.now (class_supers c.args.w.now c.requires.declared) c.requires.rank c.requires.falls c.in-AboveItself.field-0 (subst (IsSorted c.args.w.now) c.in-AboveItself.is c.in_ok-listed.ensures)

pub sort-requires-clause-supers : goal.sort-requires-clause-supers
sort-requires-clause-supers c = class_supers c.args.w.now c.requires.declared
