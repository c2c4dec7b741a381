use Rattle.std.proofs.Common.{refl, ◌∙◌, arith}
use Rattle.std.proofs.lemmas.List.Sorted.{Contains-permutation, IsNonDecreasingBy-from_sort, IsPermutation-sym}
use Rattle.method_groups.proofs.Groups.{made_kept, members_rest, gathered_none, gathered_next, gathered_all}
use Rattle.method_groups.proofs.Takers.{keeps_none, keeps_both, none_once, not_taker, sorted_ascends, taken_none}
use Rattle.method_groups.proofs.made.Made.overloads_of.Goals as goal

pub loop-at-init : goal.loop-at-init
loop-at-init c =
    let made = c.args.self.now in
    let takers = made.takers.items in
    record {
      within = c.requires.within;
      members = c.requires.members;
      gathered = gathered_none c.args.w.now c.args.labels.now.rows.items c.args.label c.new-methods.result.items c.new-methods.ensures.items;
      made = c.requires.ready.made;
      low = omega arith;
      taken = λ above. taken_none takers c.args.label c.new-methods.result.items c.new-methods.ensures.items (not_taker made.by_label.items takers c.args.label c.requires.ready.takers c.requires.unmade above);
      once = none_once c.new-methods.result.items c.new-methods.ensures.items;
      kept = keeps_none takers c.args.label;
      places = refl;
      groups = refl;
    }

pub add_overloads-requires-clause-takers : goal.add_overloads-requires-clause-takers
add_overloads-requires-clause-takers c = c.loop-at.invariant.kept.size ∙ c.requires.ready.size

pub add_overloads-requires-clause-taken : goal.add_overloads-requires-clause-taken
add_overloads-requires-clause-taken c = c.loop-at.invariant.taken (omega (arith, c.loop-at.invariant.low, c.loop-at-test.true))

pub loop-at-preserved : goal.loop-at-preserved
loop-at-preserved c =
    let w = c.args.w.now in
    let rows = c.args.labels.now.rows.items in
    let at = c.loop-at.at in
    let h = c.loop-at.invariant in
    let added = c.in_ok-at.ensures in
    let new = c.add_overloads.new in
    record {
      within = omega (arith, added.falls, h.within);
      members = members_rest w rows at _ added.rest h.members;
      gathered = gathered_next w rows c.args.label c.loop-at.methods.items new.methods.items at _ added.adds h.gathered;
      made = made_kept w rows c.loop-at.self new.self added.places added.groups h.made;
      low = omega (arith, added.falls, h.low);
      taken = λ above. added.taken;
      once = added.taken.once;
      kept = keeps_both c.args.self.now.takers.items c.loop-at.self.takers.items new.self.takers.items c.args.label h.kept added.takers;
      places = added.places ∙ h.places;
      groups = added.groups ∙ h.groups;
    }

pub returns-clause-has : goal.returns-clause-has
returns-clause-has c k =
    let moved = c.sort_unstable.ensures.permutation in
    let all = gathered_all c.args.w.now c.args.labels.now.rows.items c.args.label c.loop-at.methods.items c.loop-at.at c.loop-at-test.false c.loop-at.invariant.gathered k in (
      λ h. all.0 (Contains-permutation _ _ k (IsPermutation-sym _ _ moved) h),
      λ h. Contains-permutation _ _ k moved (all.1 h),
    )

pub returns-clause-ascending : goal.returns-clause-ascending
returns-clause-ascending c = sorted_ascends _ _ c.loop-at.invariant.once c.sort_unstable.ensures.permutation (IsNonDecreasingBy-from_sort (λ n. n) _ c.sort_unstable.ensures.sorted)
