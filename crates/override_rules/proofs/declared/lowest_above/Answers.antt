use Rattle.std.proofs.Common.{rules, ◌≡◌, ℕ, List, [], inl, inr, sym, subst, arith}
use Rattle.std.specs.List.{Contains}
use Rattle.override_rules.specs.Judged.{Pushes}
use Rattle.override_rules.proofs.Seen.{taken_below, low_known, high_known}
use Rattle.override_rules.proofs.Walks.{IsWalk, replaced_within, popped_takes, walk_begin, walk_next, walk_end}
use Rattle.override_rules.proofs.declared.lowest_above.Goals as goal

pub push_unmarked-requires : goal.push_unmarked-requires
push_unmarked-requires c k on =
    let within = replaced_within c.args.w.now c.args.m k (((c.replaced.ensures c.args.w.now c.requires.ties).0 k).0 on) in
    omega (arith, within, c.requires.size)

pub loop-t-init : goal.loop-t-init
loop-t-init c =
    let ks = c.replaced.result.now in
    let pushes = subst (λ (l : List ℕ). Pushes (Contains ks) c.args.stamp c.args.marks.now c.push_unmarked.new.marks l c.push_unmarked.new.stack.items) c.new-stack.ensures.items c.in_ok-push_unmarked.ensures in
    record {
      walk =
          walk_begin c.args.w.now c.in-Some.info.now.owner c.args.m c.args.clean.now c.args.stamp ks c.args.marks.now c.push_unmarked.new.marks c.push_unmarked.new.stack.items
          (c.replaced.ensures c.args.w.now c.requires.ties) c.requires.fresh pushes;
      others = pushes.others;
    }

pub lowest_broken-requires-clause-owners : goal.lowest_broken-requires-clause-owners
lowest_broken-requires-clause-owners c =
    let t = c.in-Some-pop.t in
    let below = taken_below c.args.w.now c.requires.sound c.args.m t (popped_takes c.args.w.now c.in-Some.info.now.owner c.args.m c.args.clean.now c.loop-t.marks c.args.stamp c.loop-t.stack.items c.pop.new.self.items t
    c.loop-t.lowest c.loop-t.invariant.walk c.in-Some-pop.ensures.items) in
    (low_known c.args.w.now c.requires.sound c.args.m t below, high_known c.args.w.now c.requires.sound c.args.m t below)

pub push_unmarked-requires-in-Some-pop : goal.push_unmarked-requires-in-Some-pop
push_unmarked-requires-in-Some-pop c k on =
    let within = replaced_within c.args.w.now c.in-Some-pop.t k ((c.behind.ensures c.args.w.now c.requires.ties).0 k on) in
    omega (arith, within, c.requires.size, c.loop-t.auto.marks)

pub loop-t-preserved : goal.loop-t-preserved
loop-t-preserved c =
    let pushes = c.in_ok-push_unmarked-2.ensures in
    let new = c.push_unmarked-in-Some-pop.new.marks in
    let more = c.push_unmarked-in-Some-pop.new.stack.items in
    record {
      walk =
          subst (IsWalk c.args.w.now c.in-Some.info.now.owner c.args.m c.args.clean.now new c.args.stamp more) (sym c.lower-lowest.ensures)
          (walk_next c.args.w.now c.in-Some.info.now.owner c.args.m c.args.clean.now c.args.stamp c.loop-t.marks new c.loop-t.stack.items c.pop.new.self.items more c.behind.result.now c.in-Some-pop.t c.loop-t.lowest
          c.in_ok-lowest_broken.field-0 c.loop-t.invariant.walk c.in-Some-pop.ensures.items c.in_ok-lowest_broken.ensures (c.behind.ensures c.args.w.now c.requires.ties) pushes);
      others = λ s k mark. elim (pushes.others s k mark) [ inl e ↦ inl e | inr was ↦ c.loop-t.invariant.others s k was ];
    }

pub returns-clause-lowest : goal.returns-clause-lowest
returns-clause-lowest c =
    let empty : c.loop-t.stack.items ≡ [] = search rules in
    walk_end c.args.w.now c.requires.sound c.requires.typed c.args.m c.in-Some.info.now c.args.clean.now c.loop-t.marks c.args.stamp c.loop-t.stack.items c.loop-t.lowest (search rules) c.requires.clean
    c.loop-t.invariant.walk empty
