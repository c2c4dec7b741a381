use Rattle.std.proofs.Common.{◌↔◌, ℕ, ◌≡◌, Some, refl, sym, ap, ◌∙◌, subst, length, arith}
use Rattle.std.specs.Prelude.{slice_get}
use Rattle.std.specs.List.{Contains}
use Rattle.std.proofs.lemmas.Option.{slice_get_read}
use Rattle.method_groups.specs.Labels.{IsOverload}
use Rattle.method_groups.proofs.Beside.{beside_within}
use Rattle.method_groups.proofs.Groups.{placed_list, place_within, row_leads, row_passes, group_passes, members_last}
use Rattle.method_groups.proofs.made.Made.add_overloads.Goals as goal
use Rattle.method_groups.proofs.made.Made.add_overloads.Goals.{After-as_slice-group, After-index-row}

pub index-requires-in-Some : goal.index-requires-in-Some
index-requires-in-Some c =
    let made = c.requires.made in
    let places = c.args.self.now.by_label.items in
    let at = slice_get_read places (length places) c.args.at c.index.result.now refl (omega (arith, c.requires.within, made.size)) c.index.ensures ∙ ap Some c.in-Some.is in
    let lt = place_within c.args.self.now.groups.items c.in-Some.place _ (made.each c.args.at c.in-Some.place at) in
    omega (arith, lt, c.args.self.now.groups.ok.0)

-- the group at the label's place
listed : (c : After-as_slice-group) → (k : ℕ) → Contains c.as_slice-group.result.now k ↔ IsOverload c.args.w.now c.args.labels.now.rows.items c.args.at k
listed c =
    let made = c.requires.made in
    let places = c.args.self.now.by_label.items in
    let groups = c.args.self.now.groups.items in
    let list = c.index-in-Some.result.now in
    let at = slice_get_read places (length places) c.args.at c.index.result.now refl (omega (arith, c.requires.within, made.size)) c.index.ensures ∙ ap Some c.in-Some.is in
    let has = made.each c.args.at c.in-Some.place at in
    let there = slice_get_read groups (length groups) c.in-Some.place list refl (place_within groups c.in-Some.place _ has) c.index-in-Some.ensures in
    subst (λ l. (k : ℕ) → Contains l k ↔ IsOverload c.args.w.now c.args.labels.now.rows.items c.args.at k) (sym c.as_slice-group.ensures)
    (placed_list c.args.w.now c.args.labels.now.rows.items groups c.in-Some.place c.args.at list has there)

pub take_all-requires-clause-within : goal.take_all-requires-clause-within
take_all-requires-clause-within c k has =
    let its = (listed ((goal.at.take_all-requires-clause-within c).After-as_slice-group) k).0 has in
    let lt = beside_within c.args.w.now its.0.member_of its.0.method k its.2 in
    omega (arith, lt, c.requires.takers)

pub returns-in-Some-clause-adds : goal.returns-in-Some-clause-adds
returns-in-Some-clause-adds c =
    group_passes c.args.w.now c.args.labels.now.rows.items c.args.methods.now.items c.as_slice-group.result.now c.take_all.new.taken.items c.args.at (listed ((goal.at.returns-in-Some-clause-adds c).After-as_slice-group)) c.in_ok-take_all.ensures.adds

row_at : (c : After-index-row) → slice_get c.args.labels.now.rows.items c.args.at ≡ Some c.index-row.result.now
row_at c = let rows = c.args.labels.now.rows.items in slice_get_read rows (length rows) c.args.at c.index-row.result.now refl c.requires.within c.index-row.ensures

pub added_by-more-requires-clause-row : goal.added_by-more-requires-clause-row
added_by-more-requires-clause-row c = (c.args.at, row_at ((goal.at.added_by-more-requires-clause-row c).After-index-row))

pub added_by-more-requires-clause-member : goal.added_by-more-requires-clause-member
added_by-more-requires-clause-member c =
    members_last c.args.w.now c.args.labels.now.rows.items c.args.at c.index-row.result.now c.requires.above (row_at ((goal.at.added_by-more-requires-clause-member c).After-index-row)) c.requires.members

pub take_all-requires-2-clause-within : goal.take_all-requires-2-clause-within
take_all-requires-2-clause-within c k has =
    let row = c.index-row.result.now in
    let lt = beside_within c.args.w.now row.last.member_of row.last.method k (c.added_by-more.ensures.only k has) in
    omega (arith, lt, c.requires.takers)

pub returns-clause-falls : goal.returns-clause-falls
returns-clause-falls c = c.requires.fit.falls c.args.at c.index-row.result.now (row_at ((goal.at.returns-clause-falls c).After-index-row)) c.requires.above

pub returns-clause-rest : goal.returns-clause-rest
returns-clause-rest c = row_leads c.args.labels.now.rows.items c.args.at c.index-row.result.now c.requires.above (row_at ((goal.at.returns-clause-rest c).After-index-row))

pub returns-clause-adds : goal.returns-clause-adds
returns-clause-adds c =
    let w = c.args.w.now in
    let rows = c.args.labels.now.rows.items in
    let row = c.index-row.result.now in
    let at = row_at ((goal.at.returns-clause-adds c).After-index-row) in
    row_passes w rows c.args.methods.now.items c.added_by-more.result.now c.take_all-2.new.taken.items c.args.at row c.requires.above at c.added_by-more.ensures c.in_ok-take_all-2.ensures.adds
