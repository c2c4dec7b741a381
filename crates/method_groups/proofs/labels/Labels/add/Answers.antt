use Rattle.std.proofs.Common.{inl, inr, IfSome, refl, sym, subst, ◌∙◌, get_or, arith}
use Rattle.std.proofs.lemmas.List.Elements.{Contains-get_or}
use Rattle.std.proofs.lemmas.Option.{slice_get-get_or}
use Rattle.method_groups.specs.Labels.{AreAdditions, IsDifference}
use Rattle.method_groups.proofs.Additions.{additions_kept, additions_next}
use Rattle.method_groups.proofs.Beside.{beside_first}
use Rattle.method_groups.proofs.Firsts.{among_all, among_contains, if_some}
use Rattle.method_groups.proofs.Joins.{added_none, added_next, labels_more, list_within}
use Rattle.method_groups.proofs.labels.Labels.add.Goals as goal

pub add_one-requires-clause-within : goal.add_one-requires-clause-within
add_one-requires-clause-within c =
    let methods = c.args.methods.now in
    let x = c.args.x in
    let lt = list_within c.args.w.now x.member_of x.method c.args.self.now methods c.requires.labels c.requires.listed (get_or methods c.loop-m.m-index 0) (Contains-get_or methods c.loop-m.m-index 0 c.loop-m-test.true) in
    omega (arith, lt, c.loop-m.invariant.size)

pub difference_from-requires-clause-members : goal.difference_from-requires-clause-members
difference_from-requires-clause-members c =
    let w = c.args.w.now in
    if_some c.mostly_last-before.result _ _ (λ y h. beside_first w y.member_of y.method h.0 (c.requires.labels.sound h.0 y h.1)) c.mostly_last-before.ensures

pub loop-m-init : goal.loop-m-init
loop-m-init c =
    let labels = c.requires.labels in
    let made = c.in_ok-fewer.ensures in
    record {
      fit = record { latest = labels.fit.latest; falls = labels.fit.falls; within = labels.fit.within };
      size = refl;
      added = added_none c.args.self.now c.args.x c.args.methods.now;
      additions = additions_kept c.args.w.now c.args.self.now.rows.items c.args.self.now.added.items c.difference_from.new.added.items made.kept labels.additions;
      difference = made.made;
    }

pub loop-m-preserved : goal.loop-m-preserved
loop-m-preserved c =
    let methods = c.args.methods.now in
    let h = c.loop-m.invariant in
    let one = c.in_ok-add_one.ensures in
    record {
      fit = one.fit;
      size = one.size ∙ h.size;
      added = added_next c.args.self.now c.loop-m.self c.add_one.new.self c.args.x methods c.loop-m.m-index (get_or methods c.loop-m.m-index 0) h.added (slice_get-get_or methods c.loop-m.m-index 0 c.loop-m-test.true) one.has;
      additions = subst (λ v. AreAdditions c.args.w.now c.add_one.new.self.rows.items v.items) (sym one.added)
          (additions_next c.args.w.now c.loop-m.self.rows.items c.add_one.new.self.rows.items c.loop-m.self.added.items c.args.x c.in_ok-fewer.fewer methods one.kept one.only c.requires.listed h.difference h.additions);
      difference = subst (λ v. IfSome c.in_ok-fewer.fewer (IsDifference c.args.w.now v.items methods)) (sym one.added) h.difference;
    }

pub returns-clause-labels : goal.returns-clause-labels
returns-clause-labels c =
    let h = c.loop-m.invariant in
    labels_more c.args.w.now c.args.x c.args.self.now c.loop-m.self c.args.methods.now c.requires.listed c.requires.labels h.fit h.additions h.size (λ m y is. elim ((h.added m y).0 is) [
      | inl was ↦ inl was
      | inr new ↦ inr (new.1, among_contains c.args.methods.now c.loop-m.m-index m new.0)
    ])

pub returns-clause-kept : goal.returns-clause-kept
returns-clause-kept c m y was = (c.loop-m.invariant.added m y).1 (inl was)

pub returns-clause-only : goal.returns-clause-only
returns-clause-only c m y is = elim ((c.loop-m.invariant.added m y).0 is) [
  | inl was ↦ inl was
  | inr new ↦ inr (new.1, among_contains c.args.methods.now c.loop-m.m-index m new.0)
]

pub returns-clause-joined : goal.returns-clause-joined
returns-clause-joined c m k p q =
    let methods = c.args.methods.now in
    let i = c.loop-m.m-index in
    let x = c.args.x in
    let added = c.loop-m.invariant.added in
    (x, (added m x).1 (inr (among_all methods i m c.loop-m-test.false p, refl)), (added k x).1 (inr (among_all methods i k c.loop-m-test.false q, refl)))
