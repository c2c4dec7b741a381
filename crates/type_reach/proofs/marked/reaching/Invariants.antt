use Rattle.std.proofs.Common.{◌+◌, length}
use Rattle.std.specs.Prelude.{not}
use Rattle.type_reach.specs.Spread.{IsSpread, left}
use Rattle.type_reach.proofs.marked.reaching.Given as goal

abbrev pub invariant-loop-node : goal.invariant-loop-node
invariant-loop-node l = IsSpread l.graph l.marks l.reached.items l.waiting.items

abbrev pub decreases-loop-node : goal.decreases-loop-node
decreases-loop-node l = left not l.reached.items l.sources.items + length l.waiting.items
