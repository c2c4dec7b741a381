use Rattle.std.proofs.Common.{ℕ, ◌<◌}
use Rattle.class_world.specs.Overriding.{OverridesAtOnce}
use Rattle.overrides.specs.Families.{AreAlike, AreGroups, AreMerging}
use Rattle.overrides.proofs.families.labels_of.Given as goal

abbrev pub invariant-loop-m : goal.invariant-loop-m
invariant-loop-m l = record {
  groups : AreGroups l.groups.labels.items l.groups.members.items;
  merging : AreMerging l.w l.groups.labels.items;
  all : (m : ℕ) → m < l.m → (t : ℕ) → OverridesAtOnce l.w m t → AreAlike l.groups.labels.items m t;
}
