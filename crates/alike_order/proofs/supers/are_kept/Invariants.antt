use Rattle.std.proofs.Common.{◌↔◌, drop}
use Rattle.alike_order.specs.Supers.{AreKept}
use Rattle.alike_order.proofs.supers.are_kept.Given as goal

abbrev pub invariant-loop-t : goal.invariant-loop-t
invariant-loop-t l = AreKept l.new l.types l.rest (drop l.t-index l.after) ↔ AreKept l.new l.types l.before l.after
