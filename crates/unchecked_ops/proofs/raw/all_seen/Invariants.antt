use Rattle.std.proofs.Common.{◌≡◌, map}
use Rattle.std.specs.Prelude.{take}
use Rattle.type_facts.specs.Members.{as_seen}
use Rattle.unchecked_ops.proofs.raw.all_seen.Given as goal

abbrev pub invariant-loop-t : goal.invariant-loop-t
invariant-loop-t l = l.all ≡ map (as_seen l.seen) (take l.t-index l.ts)
