use Rattle.std.proofs.Common.{◌≡◌, ◌<◌, ◌≤◌, length}
use Rattle.std.specs.List.{AllPairs}
use Rattle.method_groups.specs.Groups.{AreMade}
use Rattle.method_groups.specs.Labels.{AreMembers}
use Rattle.method_groups.specs.Taking.{AreTaken, KeepsTakers}
use Rattle.method_groups.proofs.Groups.{AreGathered}
use Rattle.method_groups.proofs.made.Made.overloads_of.Given as goal

abbrev pub invariant-loop-at : goal.invariant-loop-at
invariant-loop-at l = record {
  within : l.at < length l.labels.rows.items;
  members : AreMembers l.w l.labels.rows.items l.at;
  gathered : AreGathered l.w l.labels.rows.items l.label l.methods.items l.at;
  made : AreMade l.w l.labels.rows.items l.self;
  low : l.at ≤ l.label;
  taken : 0 < l.label → AreTaken l.self.takers.items l.label l.methods.items;
  once : AllPairs (λ x y. x ≡ y → ⊥) l.methods.items;
  kept : KeepsTakers l.fn.self.takers.items l.self.takers.items l.label;
  places : l.self.by_label ≡ l.fn.self.by_label;
  groups : l.self.groups ≡ l.fn.self.groups;
}

abbrev pub decreases-loop-at : goal.decreases-loop-at
decreases-loop-at l = l.at
