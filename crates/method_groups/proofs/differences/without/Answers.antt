use Rattle.std.proofs.Common.{get_or}
use Rattle.std.proofs.lemmas.Option.{slice_get-get_or}
use Rattle.method_groups.proofs.Firsts.{among_all, among_contains, at_contains}
use Rattle.method_groups.proofs.Subtracting.{left_none, left_pushed, left_dropped, none_passed, next_passed, not_among}
use Rattle.method_groups.proofs.differences.without.Goals as goal
use Rattle.method_groups.proofs.differences.without.Goals.{then-not-is_at+in_ok-push, else-not-is_at}

pub loop-m-init : goal.loop-m-init
loop-m-init c =
    let numbers = c.args.methods.now in
    let others = c.args.others.now in
    record { left = left_none numbers others c.new-left.result.items c.new-left.ensures.items; passed = none_passed numbers others }

pub loop-m-preserved : goal.loop-m-preserved
loop-m-preserved c =
    let numbers = c.args.methods.now in
    let others = c.args.others.now in
    let i = c.loop-m.m-index in
    let m = get_or numbers i 0 in
    let at = slice_get-get_or numbers i 0 c.loop-m-test.true in
    let h = c.loop-m.invariant in
    let from = c.place_from-at.ensures in
    let next = c.place_from-at.result in
    let passed = next_passed numbers others i c.loop-m.at next m c.requires.methods at h.passed from.below in
    elim c.if-not-is_at.branch [
      | then-not-is_at+in_ok-push v ↦
          let missing = not_among numbers others i c.loop-m.at next m c.requires.methods at h.passed from.below c.requires.others from.stop (λ e. let never = c.is_at.ensures.1 e in absurd (cc (never, v.if-not-is_at.true))) in
          rw v.left-is (record { left = left_pushed numbers others c.loop-m.left.items i m at h.left v.push.new.self.items v.in_ok-push.ensures.items missing; passed = passed })
      | else-not-is_at v ↦ rw v.left-is (record { left = left_dropped numbers others c.loop-m.left.items i m at h.left (at_contains others next m (c.is_at.ensures.0 v.if-not-is_at.false)); passed = passed })
    ]

pub returns-clause-only : goal.returns-clause-only
returns-clause-only c k has =
    let numbers = c.args.methods.now in
    let its = c.loop-m.invariant.left.only k has in
    (among_contains numbers c.loop-m.m-index k its.0, its.1)

pub returns-clause-all : goal.returns-clause-all
returns-clause-all c k has = c.loop-m.invariant.left.all k (among_all c.args.methods.now c.loop-m.m-index k c.loop-m-test.false has)
