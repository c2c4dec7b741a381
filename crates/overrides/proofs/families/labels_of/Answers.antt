use Rattle.std.proofs.Common.{ℕ, ◌∙◌, arith}
use Rattle.class_world.specs.Overriding.{OverridesAtOnce}
use Rattle.overrides.specs.Families.{AreAlike}
use Rattle.overrides.proofs.Places.{numbers_more}
use Rattle.overrides.proofs.Belows.{at_once_within}
use Rattle.overrides.proofs.Marks.{merging_begins, labels_hold}
use Rattle.overrides.proofs.families.labels_of.Goals as goal

pub loop-m-init : goal.loop-m-init
loop-m-init c =
    let made = c.in_ok-groups.ensures in
    record {
      groups = made.groups;
      merging = merging_begins c.args.w.now c.in_ok-groups.groups.labels.items (made.size ∙ c.requires.count) made.apart;
      all = λ m lt. absurd (omega (arith, lt));
    }

pub loop-m-preserved : goal.loop-m-preserved
loop-m-preserved c =
    let merged = c.in_ok-merge_all.ensures in
    let new = c.merge_all.new.groups.labels.items in
    record {
      groups = merged.groups;
      merging = merged.merging;
      all = numbers_more (λ m. (t : ℕ) → OverridesAtOnce c.args.w.now m t → AreAlike new m t) c.loop-m.m (λ m lt t edge. merged.kept m t (c.loop-m.invariant.all m lt t edge)) merged.all;
    }

pub returns : goal.returns
returns c =
    let h = c.loop-m.invariant in
    labels_hold c.args.w.now c.loop-m.groups.labels.items
    (λ m t edge. h.all m (let lt = (at_once_within edge).0 in omega (arith, lt, c.loop-m-test.false, c.requires.count)) t edge) h.merging h.groups.within
