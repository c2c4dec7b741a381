use Rattle.std.proofs.Common.{◌≡◌, ℕ, ◌<◌, ◌⊎◌, length, take}
use Rattle.std.specs.Prelude.{Contains, ◌↔◌}
use Rattle.type_reach.specs.Sources.{HasTarget}
use Rattle.type_reach.proofs.sources.add_source.Given as goal

abbrev pub invariant-loop-target : goal.invariant-loop-target
invariant-loop-target l = record {
  size : length l.sources.items ≡ length l.fn.sources.items;
  added : (a b : ℕ) → HasTarget l.sources.items b a ↔ (HasTarget l.fn.sources.items b a ⊎ ((a ≡ l.node) × Contains (take l.target-index l.targets) b × (b < length l.fn.sources.items)));
}
