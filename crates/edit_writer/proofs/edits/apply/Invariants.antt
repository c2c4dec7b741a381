use Rattle.std.proofs.Common.{◌≡◌, ◌++◌, drop, length}
use Rattle.edit_writer.specs.Edits.{made, AreOrdered}
use Rattle.edit_writer.proofs.edits.apply.Given as goal

abbrev pub invariant-loop-edit : goal.invariant-loop-edit
invariant-loop-edit l = record {
  out : l.out.items ++ made l.at (drop l.edit-index l.edits) l.text ≡ made 0 l.edits l.text;
  rest : l.rest ≡ drop l.at l.text;
  ordered : AreOrdered l.at (drop l.edit-index l.edits) (length l.text);
}
