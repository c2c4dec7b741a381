use Rattle.std.proofs.Common.{◌≡◌, Bool, true, false, not, nat_eq, slice_index_or, inl, refl}
use Rattle.std.specs.HashSet.{contains}
use Rattle.inherited_rules.proofs.Named.{has_item, item_at}
use Rattle.inherited_rules.proofs.Pairs.{member_within, single_none, single_more, single_skip, single_told}
use Rattle.inherited_rules.proofs.results.may_meet.Goals as goal
use Rattle.inherited_rules.proofs.results.may_meet.Goals.{then-not-declares+in_ok-is_new+else-not-is_new+else-may_meet_namesake, else-not-declares}

not_there : (has new : Bool) → new ≡ not has → new ≡ true → has ≡ false
not_there true new is on = cc (is, on)
not_there false new is on = refl

pub loop-m-init : goal.loop-m-init
loop-m-init c = single_none c.args.w.now c.args.numbers.now c.requires.numbers c.args.c c.args.members.now (contains nat_eq c.new-seen.result)

pub bounds-numbers-m : goal.bounds-numbers-m
bounds-numbers-m c = member_within c.args.w.now c.args.numbers.now c.requires.numbers c.args.c c.args.members.now c.requires.members _ (has_item c.args.members.now c.loop-m.m-index c.loop-m-test.true)

pub loop-m-preserved : goal.loop-m-preserved
loop-m-preserved c =
    let w = c.args.w.now in
    let numbers = c.args.numbers.now in
    let ms = c.args.members.now in
    let i = c.loop-m.m-index in
    let m = slice_index_or ms i 0 in
    let n = slice_index_or numbers m 0 in
    let at = item_at ms i c.loop-m-test.true in
    let has = contains nat_eq c.loop-m.seen in
    elim c.if-not-declares.branch [
      | then-not-declares+in_ok-is_new+else-not-is_new+else-may_meet_namesake v ↦
          let number = item_at numbers m (member_within w numbers c.requires.numbers c.args.c ms c.requires.members m (has_item ms i c.loop-m-test.true)) in
          let fresh = not_there (has n) v.in_ok-is_new.is_new v.in_ok-is_new.ensures.added v.if-not-is_new.false in
          rw v.seen-is (single_more w numbers c.requires.numbers c.args.c ms i m n has (contains nat_eq v.insert.new.self) at number fresh v.in_ok-is_new.ensures.updates.0
          (v.may_meet_namesake.ensures (λ met. cc (met, v.if-may_meet_namesake.false))) c.loop-m.invariant)
      | else-not-declares v ↦ rw v.seen-is (single_skip w numbers c.requires.numbers c.args.c ms i m has at (c.declares.ensures.0 v.if-not-declares.false) c.loop-m.invariant)
    ]

pub returns : goal.returns
returns c m k in_m in_k one =
    inl (single_told c.args.w.now c.args.numbers.now c.requires.numbers c.args.c c.args.members.now c.loop-m.m-index (contains nat_eq c.loop-m.seen) c.requires.members c.loop-m.invariant c.loop-m-test.false m k in_m in_k one)
