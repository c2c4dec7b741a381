use Rattle.overrides.proofs.Belows.{declared_free}
use Rattle.overrides.proofs.Edges.{free_ties}
use Rattle.overrides.proofs.at_once.declared_tie.Goals as goal

pub returns-then-are_scoped : goal.returns-then-are_scoped
returns-then-are_scoped c = record { tied = free_ties; free = λ e. declared_free c.args.w.now c.requires.sound (c.are_scoped.ensures c.if-are_scoped.true) }
