use Rattle.std.proofs.Common.{◌≡◌, ℕ, sym, subst, get_or, arith}
use Rattle.std.proofs.lemmas.Option.{slice_get-get_or}
use Rattle.std.proofs.lemmas.List.Elements.{Contains-get_or}
use Rattle.shared_maps.specs.Maps.{AreEntries}
use Rattle.class_world.specs.Overriding.{OverridesAtOnce}
use Rattle.overrides.specs.declared.at_once.TheConstants.{APART}
use Rattle.overrides.specs.Tables.{value_at}
use Rattle.overrides.specs.Families.{AreAlike}
use Rattle.overrides.proofs.Places.{items_more, items_all}
use Rattle.overrides.proofs.Belows.{at_once_within}
use Rattle.overrides.proofs.Edges.{entry_tie, tie_entry}
use Rattle.overrides.proofs.Marks.{merging_on}
use Rattle.overrides.proofs.families.merge_all.Goals as goal
use Rattle.overrides.proofs.families.merge_all.Goals.{After-deref-tie-items, Then-tie-ne-APART, then-tie-ne-APART+in_ok-merge, else-tie-ne-APART}

entries_are : (c : After-deref-tie-items) → AreEntries (value_at c.args.ties.now c.args.m) c.deref-tie-items.result.now
entries_are c = subst (AreEntries (value_at c.args.ties.now c.args.m)) (sym c.deref-tie-items.ensures.value) c.in_ok-ties.ensures

edge : (c : Then-tie-ne-APART) → OverridesAtOnce c.args.w.now c.args.m (get_or c.deref-tie-items.result.now c.loop-tie.tie-index (0, 0)).0
edge c =
    let entries = c.deref-tie-items.result.now in
    let are = subst (AreEntries (value_at c.args.ties.now c.args.m)) (sym c.deref-tie-items.ensures.value) c.in_ok-ties.ensures in
    (entry_tie c.args.w.now c.args.ties.now c.args.m entries c.requires.ties are (get_or entries c.loop-tie.tie-index (0, 0)) (Contains-get_or entries c.loop-tie.tie-index (0, 0) c.loop-tie-test.true)).tied c.if-tie-ne-APART.true

pub merge-requires-clause-first : goal.merge-requires-clause-first
merge-requires-clause-first c = let lt = (at_once_within (edge ((goal.at.merge-requires-clause-first c).Then-tie-ne-APART))).0 in omega (arith, lt, c.loop-tie.invariant.merging.size)

pub merge-requires-clause-second : goal.merge-requires-clause-second
merge-requires-clause-second c = let lt = (at_once_within (edge ((goal.at.merge-requires-clause-second c).Then-tie-ne-APART))).1 in omega (arith, lt, c.loop-tie.invariant.merging.size)

pub loop-tie-preserved : goal.loop-tie-preserved
loop-tie-preserved c =
    let entries = c.deref-tie-items.result.now in
    let i = c.loop-tie.tie-index in
    let p = get_or entries i (0, 0) in
    let h = c.loop-tie.invariant in
    let at = slice_get-get_or entries i (0, 0) c.loop-tie-test.true in
    elim c.if-tie-ne-APART.branch [
      | then-tie-ne-APART+in_ok-merge w ↦
          let tie = entry_tie c.args.w.now c.args.ties.now c.args.m entries c.requires.ties (entries_are ((goal.at.loop-tie-preserved c).After-deref-tie-items)) p (Contains-get_or entries i (0, 0) c.loop-tie-test.true) in
          let merged = w.in_ok-merge.ensures.merged in
          let new = w.merge.new.groups.labels.items in
          rw w.groups-is (record {
            groups = w.in_ok-merge.ensures.groups;
            merging = merging_on c.args.w.now c.loop-tie.groups.labels.items new c.args.m p.0 h.merging merged (tie.tied w.if-tie-ne-APART.true);
            kept = λ a b alike. merged.kept a b (h.kept a b alike);
            all = items_more {A = ℕ × ℕ} (λ q. (q.1 ≡ APART → ⊥) → AreAlike new c.args.m q.0) entries i p (λ j q lt is tied. merged.kept c.args.m q.0 (h.all j q lt is tied)) at (λ tied. merged.here);
          })
      | else-tie-ne-APART w ↦ rw w.groups-is (record {
        groups = h.groups;
        merging = h.merging;
        kept = h.kept;
        all = items_more {A = ℕ × ℕ} (λ q. (q.1 ≡ APART → ⊥) → AreAlike c.loop-tie.groups.labels.items c.args.m q.0) entries i p h.all at (λ tied. absurd (tied w.if-tie-ne-APART.false));
      })
    ]

pub returns-clause-all : goal.returns-clause-all
returns-clause-all c t edge =
    let entries = c.deref-tie-items.result.now in
    let tie = tie_entry c.args.w.now c.args.ties.now c.args.m entries c.requires.ties (entries_are ((goal.at.returns-clause-all c).After-deref-tie-items)) t edge in
    items_all {A = ℕ × ℕ} (λ q. (q.1 ≡ APART → ⊥) → AreAlike c.loop-tie.groups.labels.items c.args.m q.0) entries c.loop-tie.tie-index c.loop-tie.invariant.all c.loop-tie-test.false (t, tie.0) tie.1 tie.2
