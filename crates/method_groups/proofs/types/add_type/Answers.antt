use Rattle.std.proofs.Common.{◌↔◌, ℕ, sym, subst, get_or}
use Rattle.std.specs.List.{Contains}
use Rattle.std.proofs.lemmas.List.Elements.{Contains-get_or}
use Rattle.std.proofs.lemmas.Option.{slice_get-get_or}
use Rattle.class_world.specs.Inheritance.{IsMemberMethod}
use Rattle.method_groups.proofs.Firsts.{among_all}
use Rattle.method_groups.proofs.Beside.{member_first, member_beside, beside_first}
use Rattle.method_groups.proofs.Joins.{again_joined, joined_kept, passed_kept, passed_next, list_joined}
use Rattle.method_groups.proofs.types.add_type.Goals as goal
use Rattle.method_groups.proofs.types.add_type.Goals.{then-not-is_again+in_ok-add, else-not-is_again, After-as_slice-m-items}

its_members : (c : After-as_slice-m-items) → (m : ℕ) → Contains c.as_slice-m-items.result.now m ↔ IsMemberMethod c.args.w.now c.args.c m
its_members c =
    subst (λ l. (m : ℕ) → Contains l m ↔ IsMemberMethod c.args.w.now c.args.c m) (sym c.as_slice-m-items.ensures.value) (c.in_ok-members.ensures c.args.w.now c.requires.lists)

pub add-requires-clause-listed : goal.add-requires-clause-listed
add-requires-clause-listed c =
    let w = c.args.w.now in
    let items = c.as_slice-m-items.result.now in
    let i = c.loop-m.m-index in
    let m = get_or items i 0 in
    let member = (its_members ((goal.at.add-requires-clause-listed c).After-as_slice-m-items) m).0 (Contains-get_or items i 0 c.loop-m-test.true) in
    c.methods_of.ensures.has (member_beside w c.args.c m member)

pub loop-m-preserved : goal.loop-m-preserved
loop-m-preserved c =
    let w = c.args.w.now in
    let owner = c.args.c in
    let items = c.as_slice-m-items.result.now in
    let i = c.loop-m.m-index in
    let m = get_or items i 0 in
    let at = slice_get-get_or items i 0 c.loop-m-test.true in
    let old = c.loop-m.labels in
    let h = c.loop-m.invariant in
    let member = (its_members ((goal.at.loop-m-preserved c).After-as_slice-m-items) m).0 (Contains-get_or items i 0 c.loop-m-test.true) in
    let its = member_beside w owner m member in
    elim c.if-not-is_again.branch [
      | then-not-is_again+in_ok-add v ↦
          let new = v.add.new.self in
          let list = v.methods_of.result.now in
          let listed = v.methods_of.ensures.has its in
          let added = v.in_ok-add.ensures in
          let kept = joined_kept old new added.kept in
          let joined = list_joined w owner m new list listed added.joined in
          rw (v.labels-is, v.last-is) (record {
            labels = added.labels;
            kept = λ a b is. kept a b (h.kept a b is);
            passed = (its, joined);
            all = passed_next w owner new items i m at (passed_kept w owner old new items i kept h.all) joined;
          })
      | else-not-is_again v ↦ rw (v.labels-is, v.last-is) (record {
        labels = h.labels;
        kept = h.kept;
        passed = h.passed;
        all = passed_next w owner old items i m at h.all (again_joined w owner m old c.loop-m.last h.passed (c.is_again.ensures.0 v.if-not-is_again.false) its);
      })
    ]

pub returns-clause-all : goal.returns-clause-all
returns-clause-all c = λ m k both.
    let w = c.args.w.now in
    let items = c.as_slice-m-items.result.now in
    let has = (its_members ((goal.at.returns-clause-all c).After-as_slice-m-items) m).1 (member_first w c.args.c m k both) in
    c.loop-m.invariant.all m (among_all items c.loop-m.m-index m c.loop-m-test.false has) m k (beside_first w c.args.c m k both) both
