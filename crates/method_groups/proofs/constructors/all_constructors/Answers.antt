use Rattle.std.proofs.Common.{◌≡◌, Some, ap, length, arith}
use Rattle.std.specs.Prelude.{slice_get}
use Rattle.class_world.proofs.Collected.{item_at}
use Rattle.method_groups.specs.Constructors.{found_in}
use Rattle.method_groups.proofs.Shapes.{below_skip, below_next, below_all}
use Rattle.method_groups.proofs.constructors.all_constructors.Goals as goal
use Rattle.method_groups.proofs.constructors.all_constructors.Goals.{then-info+in_ok-add, else-info}

pub add-requires-clause-above : goal.add-requires-clause-above
add-requires-clause-above c q k has = ((c.loop-m.invariant.below q k).0 has).0

pub loop-m-preserved : goal.loop-m-preserved
loop-m-preserved c =
    let w = c.args.w.now in
    let old = c.loop-m.found in
    let info = c.index-as_slice-m.result in
    let all = ap length c.as_slice.ensures in
    let at : slice_get w.methods c.loop-m.m ≡ Some info = item_at _ _ _ _ c.as_slice.ensures (omega (arith, c.loop-m-test.true, c.in-Ok.ensures, c.len.ensures, all)) c.index-as_slice-m.is in
    elim c.if-info.branch [
      | then-info+in_ok-add v ↦ rw v.found-is (record {
        lists = v.in_ok-add.ensures.lists;
        below = below_next w (found_in old.places) old.lists.items c.loop-m.m info c.loop-m.invariant.below at (found_in v.add.new.self.places) v.add.new.self.lists.items v.shape_of.result v.if-info.true v.shape_of.ensures
            v.in_ok-add.ensures.has;
      })
      | else-info v ↦ rw v.found-is (record { lists = c.loop-m.invariant.lists; below = below_skip w (found_in old.places) old.lists.items c.loop-m.m info c.loop-m.invariant.below at v.if-info.false })
    ]

pub returns : goal.returns
returns c =
    below_all c.args.w.now (found_in c.loop-m.found.places) c.loop-m.found.lists.items c.loop-m.m (omega (arith, c.loop-m-test.false, c.in-Ok.ensures, c.len.ensures)) c.loop-m.invariant.lists c.loop-m.invariant.below
