use Rattle.std.proofs.Common.{sym, subst, ◌+◌}
use Rattle.std.specs.Prelude.{slice_index_or}
use Rattle.std.proofs.lemmas.Option.{slice_get-get_or}
use Rattle.shared_maps.specs.Maps.{AreEntries, value_in}
use Rattle.member_methods.proofs.Maps.{AreOfFirst, of_none, of_next, of_all}
use Rattle.member_methods.proofs.tables.Tables.all_listed.Goals as goal

pub loop-list-init : goal.loop-list-init
loop-list-init c = subst (AreOfFirst c.args.self.now.lists c.as_slice-list-items.result.now 0) (sym c.new-numbers.ensures.items) (of_none c.args.self.now.lists c.as_slice-list-items.result.now)

pub loop-list-preserved : goal.loop-list-preserved
loop-list-preserved c =
    let lists = c.args.self.now.lists in
    let xs = c.as_slice-list-items.result.now in
    let i = c.loop-list.list-index in
    let at = slice_get-get_or xs i (0, 0) c.loop-list-test.true in
    let e = slice_index_or xs i (0, 0) in
    subst (AreOfFirst lists xs (i + 1)) (sym c.in_ok-extend_from_slice.ensures.items) (of_next lists xs i e c.loop-list.numbers.items c.get.result.now at c.get.ensures c.loop-list.invariant)

pub returns : goal.returns
returns c =
    let t = c.args.self.now in
    let xs = c.as_slice-list-items.result.now in
    let are = subst (AreEntries (value_in t.maps c.args.map)) (sym c.as_slice-list-items.ensures.value) c.in_ok-entries.ensures in
    of_all t c.args.map xs c.loop-list.list-index c.loop-list.numbers.items are c.loop-list-test.false c.loop-list.invariant
