use Rattle.std.proofs.Common.{◌≡◌, ℕ, Some, None, length}
use Rattle.std.specs.Prelude.{slice_get}
use Rattle.class_world.specs.declared.world.Above.{Above}
use Rattle.class_world.proofs.order_table.empty_rows.Given as goal

abbrev pub invariant-loop : goal.invariant-loop
invariant-loop l = record {
  len : length l.rows.items ≡ l.counter;
  none : (c : ℕ) (a : Above) → slice_get l.rows.items c ≡ Some a → a.shortcut ≡ None;
}
