use Rattle.overrides.specs.Tables.{AreOfOneSize}
use Rattle.found_methods.proofs.Overlays.{IsOverlaying}
use Rattle.std.proofs.Common.{ℕ, Option}
use Rattle.shared_maps.specs.Maps.{AreEntries}
use Rattle.found_methods.proofs.table.Table.set_all.Given as goal

abbrev pub invariant-loop-entry : goal.invariant-loop-entry
invariant-loop-entry l = record {
  size : AreOfOneSize l.fn.self l.self;
  overlay : (value : ℕ → Option ℕ) → AreEntries value l.entries → IsOverlaying l.fn.self l.self l.row l.entries l.entry-index;
}
