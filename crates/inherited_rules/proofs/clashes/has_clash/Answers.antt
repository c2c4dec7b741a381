use Rattle.std.proofs.Common.{◌≡◌, nat_eq, Some, slice_index_or, refl, sym, ◌∙◌}
use Rattle.std.specs.HashMap.{get}
use Rattle.inherited_rules.proofs.Members.{own_signature}
use Rattle.inherited_rules.proofs.Named.{has_item, item_at}
use Rattle.inherited_rules.proofs.Pairs.{member_within, like_same, like_more, clash_none, clash_told}
use Rattle.inherited_rules.proofs.clashes.has_clash.Goals as goal
use Rattle.inherited_rules.proofs.clashes.has_clash.Goals.{in-Some+in_ok-have_one_signature-in-Some+else-not-branch, in-None+in_ok-insert-in-None}

pub bounds-numbers-m : goal.bounds-numbers-m
bounds-numbers-m c = member_within c.args.w.now c.args.numbers.now c.requires.numbers c.args.c c.args.members.now c.requires.members _ (has_item c.args.members.now c.loop-m.m-index c.loop-m-test.true)

pub returns-then-not-branch : goal.returns-then-not-branch
returns-then-not-branch c =
    let w = c.args.w.now in
    let numbers = c.args.numbers.now in
    let ms = c.args.members.now in
    let i = c.loop-m.m-index in
    let m = slice_index_or ms i 0 in
    let n = slice_index_or numbers m 0 in
    let has = has_item ms i c.loop-m-test.true in
    let number = item_at numbers m (member_within w numbers c.requires.numbers c.args.c ms c.requires.members m has) in
    let found : get nat_eq c.loop-m.firsts n ≡ Some c.in-Some.first = sym c.get.ensures.value ∙ sym c.copied.ensures ∙ c.in-Some.is in (
      λ h. clash_told w numbers c.requires.numbers c.requires.sound c.args.c ms m n c.in-Some.first i (get nat_eq c.loop-m.firsts) c.requires.known c.requires.members has number found c.loop-m.invariant
          (λ one. let yes = c.in_ok-have_one_signature-in-Some.ensures.1 one in cc (yes, c.if-not-branch.true)),
      λ h. refl,
    )

pub loop-m-preserved : goal.loop-m-preserved
loop-m-preserved c =
    let w = c.args.w.now in
    let numbers = c.args.numbers.now in
    let ms = c.args.members.now in
    let i = c.loop-m.m-index in
    let m = slice_index_or ms i 0 in
    let n = slice_index_or numbers m 0 in
    let has = has_item ms i c.loop-m-test.true in
    let number = item_at numbers m (member_within w numbers c.requires.numbers c.args.c ms c.requires.members m has) in
    let find = get nat_eq c.loop-m.firsts in
    let looked = sym c.get.ensures.value ∙ sym c.copied.ensures in
    elim c.match-copied.branch [
      | in-Some+in_ok-have_one_signature-in-Some+else-not-branch v ↦
          rw v.firsts-is (like_same w numbers c.requires.numbers c.requires.sound c.args.c ms i m n v.in-Some.first find (item_at ms i c.loop-m-test.true) number (looked ∙ v.in-Some.is)
          (v.in_ok-have_one_signature-in-Some.ensures.0 v.if-not-branch.false) c.loop-m.invariant)
      | in-None+in_ok-insert-in-None v ↦
          let member = (c.requires.members m).0 has in
          rw v.firsts-is (like_more w numbers c.requires.numbers c.requires.sound c.args.c ms i m n find (get nat_eq v.insert.new.self) (item_at ms i c.loop-m-test.true) number (looked ∙ v.in-None.is)
          v.in_ok-insert-in-None.ensures.updates.0 member (own_signature w c.requires.sound c.args.c m c.requires.known.0 c.requires.known.1 member) c.loop-m.invariant)
    ]

pub returns : goal.returns
returns c = (
  λ h. absurd (cc h),
  λ h. absurd (clash_none c.args.w.now c.args.numbers.now c.requires.numbers c.requires.sound c.args.c c.args.members.now c.loop-m.m-index (get nat_eq c.loop-m.firsts) c.requires.members c.loop-m.invariant
      c.loop-m-test.false h),
)
