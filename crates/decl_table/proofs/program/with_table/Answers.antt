use Rattle.std.proofs.Common.{inl, inr, subst}
use Rattle.class_world.specs.Ordered.{IsOrdered}
use Rattle.decl_table.proofs.program.with_table.Goals as goal

pub unreachable-requires : goal.unreachable-requires
unreachable-requires c = elim c.in-AboveItself.is [
  | inl h ↦ c.requires.rises h.0 (subst (IsOrdered c.args.world) h.1 c.in_ok-world.ensures)
  | inr h ↦ c.requires.single h.0 (subst (IsOrdered c.args.world) h.1 c.in_ok-world.ensures)
]
