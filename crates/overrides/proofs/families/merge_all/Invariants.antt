use Rattle.std.proofs.Common.{◌≡◌, ℕ, ◌<◌, Some}
use Rattle.std.specs.Prelude.{slice_get}
use Rattle.overrides.specs.declared.at_once.TheConstants.{APART}
use Rattle.overrides.specs.Families.{AreAlike, AreGroups, AreMerging, KeepsAlike}
use Rattle.overrides.proofs.families.merge_all.Given as goal

abbrev pub invariant-loop-tie : goal.invariant-loop-tie
invariant-loop-tie l = record {
  groups : AreGroups l.groups.labels.items l.groups.members.items;
  merging : AreMerging l.w l.groups.labels.items;
  kept : KeepsAlike l.fn.groups.labels.items l.groups.labels.items;
  all : (j : ℕ) (p : ℕ × ℕ) → j < l.tie-index → slice_get l.tie-items j ≡ Some p → (p.1 ≡ APART → ⊥) → AreAlike l.groups.labels.items l.m p.0;
}
