use Rattle.std.proofs.Common.{◌↔◌, ℕ, refl, sym, ◌∙◌, subst, arith}
use Rattle.std.specs.List.{Contains}
use Rattle.std.proofs.lemmas.Bool.{true≢false}
use Rattle.class_world.specs.Inheritance.{IsPrivateMethod}
use Rattle.class_world.proofs.Collected.{item_at}
use Rattle.member_methods.specs.Made.{Lists}
use Rattle.member_methods.proofs.Taken.{open_next, open_skip, open_all}
use Rattle.member_methods.proofs.made.handed_down.Goals as goal
use Rattle.member_methods.proofs.made.handed_down.Goals.{then-is_one_private+in_ok-open+in_ok-map, else-is_one_private}

pub put-requires-clause-key : goal.put-requires-clause-key
put-requires-clause-key c =
    let groups = c.args.groups.now in
    let at = item_at groups groups c.loop-group.group-index c.group-item.result refl c.loop-group-test.true c.group-item.is in
    let small = c.requires.below c.loop-group.group-index c.group-item.result at in
    let same = c.loop-group.invariant.keeps.keys in
    omega (arith, small, same)

pub loop-group-preserved : goal.loop-group-preserved
loop-group-preserved c =
    let old = c.args.tables.now in
    let w = c.args.w.now in
    let groups = c.args.groups.now in
    let g = c.group-item.result in
    let i = c.loop-group.group-index in
    let at = item_at groups groups i g refl c.loop-group-test.true c.group-item.is in
    elim c.if-is_one_private.branch [
      | then-is_one_private+in_ok-open+in_ok-map v ↦
          let opens = subst (λ l. (m : ℕ) → Contains v.in_ok-open.open.items m ↔ (Contains l m × (IsPrivateMethod w m → ⊥))) v.listed.ensures v.in_ok-open.ensures in
          rw (v.tables-is, v.map-is)
          (open_next w groups (Lists old c.args.members) c.requires.single c.requires.private old c.loop-group.tables v.put.new.self c.loop-group.map v.in_ok-map.map i g v.in_ok-open.open.items at c.loop-group.invariant opens v.in_ok-map.ensures)
      | else-is_one_private v ↦
          rw (v.tables-is, v.map-is) (open_skip w groups (Lists old c.args.members) c.requires.single c.requires.private old c.loop-group.tables c.loop-group.map i g at c.loop-group.invariant
          (λ h. true≢false (sym (c.is_one_private.ensures.1 (h.0, subst (λ l. Contains l h.0) (sym c.as_slice.ensures) h.1, h.2)) ∙ v.if-is_one_private.false)))
    ]

pub returns : goal.returns
returns c =
    let old = c.args.tables.now in
    open_all c.args.w.now c.args.groups.now (Lists old c.args.members) c.requires.single c.requires.private old c.loop-group.tables c.loop-group.map c.loop-group.group-index c.loop-group-test.false c.loop-group.invariant
