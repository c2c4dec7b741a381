use Rattle.std.proofs.Common.{◌≡◌, ◌++◌, drop}
use Rattle.kept_places.specs.Found as spec
use Rattle.kept_places.proofs.kept.kept_of.Given as goal

abbrev pub invariant-loop-chain : goal.invariant-loop-chain
invariant-loop-chain l = l.all ++ spec.kept_of l.links (drop l.chain-index l.found) ≡ spec.kept_of l.links l.found
