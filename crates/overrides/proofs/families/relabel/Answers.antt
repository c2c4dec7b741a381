use Rattle.std.proofs.Common.{◌≡◌, ℕ, ◌+◌, ◌∙◌, ◌++◌, ◌∷◌, [], List, Some, refl, sym, ap, subst, length, get_or, take, arith}
use Rattle.std.specs.Prelude.{slice_get, slice_set}
use Rattle.std.proofs.lemmas.Option.{slice_get_read, slice_get-get_or, get_or_from_slice_get}
use Rattle.class_world.proofs.Substs.{there_is}
use Rattle.overrides.proofs.Groups.{IsMoving, moving_begins, moving_label, moving_next, moved_relabels, moved_groups}
use Rattle.overrides.proofs.families.relabel.Goals as goal
use Rattle.overrides.proofs.families.relabel.Goals.{After-as_slice-m-items}

row_at : (c : After-as_slice-m-items) → (row : List ℕ) × (slice_get c.args.members.now.items c.args.into ≡ Some row)
row_at c = there_is c.args.members.now.items c.args.into (omega (arith, c.requires.second, c.requires.groups.size))

moved_at : (c : After-as_slice-m-items) → slice_get c.args.members.now.items c.args.from ≡ Some c.as_slice-m-items.result.now
moved_at c =
    let members = c.args.members.now.items in
    slice_get_read members (length members) c.args.from c.index_mut.result.now refl (omega (arith, c.requires.first, c.requires.groups.size)) c.index_mut.ensures.value
    ∙ ap (λ xs. Some xs) (sym (c.as_slice-m-items.ensures ∙ c.replace-moved.ensures.value))

pub loop-m-init : goal.loop-m-init
loop-m-init c =
    let labels = c.args.labels.now.items in
    let members = c.args.members.now.items in
    record {
      row = (row_at c).0;
      is_moved = moved_at c;
      is_row = (row_at c).1;
      moving = subst (λ xs. IsMoving labels labels members (slice_set members c.args.from xs) c.args.from c.args.into c.as_slice-m-items.result.now (row_at c).0 0)
          (sym (c.replace-moved.ensures.after ∙ c.new.ensures))
          (moving_begins labels members c.args.from c.args.into c.as_slice-m-items.result.now (row_at c).0 c.requires.groups c.requires.two (moved_at c) (row_at c).1);
    }

pub index_mut-requires-in-loop-m : goal.index_mut-requires-in-loop-m
index_mut-requires-in-loop-m c =
    let h = c.loop-m.invariant in
    let moved = c.as_slice-m-items.result.now in
    let lt = moving_label c.args.labels.now.items c.args.members.now.items c.args.from c.args.into moved h.row c.requires.groups c.requires.two h.is_moved h.is_row
    c.loop-m.labels.items c.loop-m.members.items c.loop-m.m-index (get_or moved c.loop-m.m-index 0) h.moving (slice_get-get_or moved c.loop-m.m-index 0 c.loop-m-test.true) in
    omega (arith, lt, c.loop-m.labels.ok.0)

pub loop-m-preserved : goal.loop-m-preserved
loop-m-preserved c =
    let h = c.loop-m.invariant in
    let moved = c.as_slice-m-items.result.now in
    let i = c.loop-m.m-index in
    let m = get_or moved i 0 in
    let before : c.index_mut-in-loop-m-2.result.now ≡ h.row ++ take i moved =
    c.index_mut-in-loop-m-2.ensures.value ∙ get_or_from_slice_get c.loop-m.members.items c.args.into (h.row ++ take i moved) c.index_mut-in-loop-m-2.result.now h.moving.joined in
    let after : c.push.new.self ≡ (h.row ++ take i moved) ++ m ∷ [] = c.in_ok-push.ensures.ok ∙ ap (λ xs. xs ++ m ∷ []) before in
    record {
      row = h.row;
      is_moved = h.is_moved;
      is_row = h.is_row;
      moving = subst
          (λ xs. IsMoving c.args.labels.now.items (slice_set c.loop-m.labels.items m c.args.into) c.args.members.now.items (slice_set c.loop-m.members.items c.args.into xs) c.args.from c.args.into moved h.row (i + 1))
          (sym after)
          (moving_next c.args.labels.now.items c.args.members.now.items c.args.from c.args.into moved h.row c.requires.groups c.requires.two h.is_moved h.is_row c.loop-m.labels.items c.loop-m.members.items i m
          h.moving (slice_get-get_or moved i 0 c.loop-m-test.true));
    }

pub returns-clause-groups : goal.returns-clause-groups
returns-clause-groups c =
    let h = c.loop-m.invariant in
    moved_groups c.args.labels.now.items c.args.members.now.items c.args.from c.args.into c.as_slice-m-items.result.now h.row c.requires.groups c.requires.two h.is_moved h.is_row
    c.loop-m.labels.items c.loop-m.members.items c.loop-m.m-index h.moving c.loop-m-test.false c.requires.second

pub returns-clause-relabelled : goal.returns-clause-relabelled
returns-clause-relabelled c =
    let h = c.loop-m.invariant in
    moved_relabels c.args.labels.now.items c.args.members.now.items c.args.from c.args.into c.as_slice-m-items.result.now h.row c.requires.groups c.requires.two h.is_moved h.is_row
    c.loop-m.labels.items c.loop-m.members.items c.loop-m.m-index h.moving c.loop-m-test.false
