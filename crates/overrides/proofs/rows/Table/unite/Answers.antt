use Rattle.std.proofs.Common.{◌<◌, refl, sym, subst, length}
use Rattle.std.proofs.lemmas.Option.{slice_get_read}
use Rattle.shared_maps.proofs.Kept.{keeps_both}
use Rattle.overrides.specs.Tables.{Rows}
use Rattle.overrides.proofs.Grids.{table_kept, table_set, row_united}
use Rattle.overrides.proofs.rows.Table.unite.Goals as goal

pub without-requires : goal.without-requires
without-requires c =
    let rows = c.self.inside.rows.items in
    let other : c.args.t < length rows = subst (λ (t : Rows). c.args.t < length t.rows) (sym c.self.view_is) c.requires.other in
    c.self.invariant.each c.args.t c.index.result.now (slice_get_read rows (length rows) c.args.t c.index.result.now refl other c.index.ensures)

pub invariant_of-self : goal.invariant_of-self
invariant_of-self c = table_kept c.self.invariant c.in_err-above.ensures.kept

pub invariant_of-self-in_err-both : goal.invariant_of-self-in_err-both
invariant_of-self-in_err-both c = table_kept (table_kept c.self.invariant c.in_ok-above.ensures.kept) c.in_err-both.ensures.kept

pub invariant_of-self-in_err-self-inside : goal.invariant_of-self-in_err-self-inside
invariant_of-self-in_err-self-inside c =
    table_kept (table_kept (table_kept c.self.invariant c.in_ok-above.ensures.kept) c.in_ok-both.ensures.kept) c.in_err-self-inside.ensures.kept

pub invariant_of-self-2 : goal.invariant_of-self-2
invariant_of-self-2 c =
    table_set c.args.m c.in_ok-self-inside.field-0 (table_kept (table_kept c.self.invariant c.in_ok-above.ensures.kept) c.in_ok-both.ensures.kept) c.in_ok-self-inside.ensures.kept
    c.in_ok-self-inside.ensures.map

pub returns-clause-united : goal.returns-clause-united
returns-clause-united c =
    let rows = c.self.inside.rows.items in
    let above = c.in_ok-above.ensures in
    let both = c.in_ok-both.ensures in
    let put = c.in_ok-self-inside.ensures in
    let row : c.args.m < length rows = subst (λ (t : Rows). c.args.m < length t.rows) (sym c.self.view_is) c.requires.row in
    let other : c.args.t < length rows = subst (λ (t : Rows). c.args.t < length t.rows) (sym c.self.view_is) c.requires.other in
    let itself : c.args.m < c.self.inside.maps.keys = subst (λ (t : Rows). c.args.m < t.maps.keys) (sym c.self.view_is) c.requires.itself in
    let key : c.args.t < c.self.inside.maps.keys = subst (λ (t : Rows). c.args.t < t.maps.keys) (sym c.self.view_is) c.requires.key in
    rw (← c.self.view_is)
    (row_united c.self.inside.maps c.without.new.maps c.union.new.self c.put.new.self rows c.args.m c.args.t c.index-2.result.now c.index.result.now c.in_ok-above.above c.in_ok-both.both
    c.in_ok-self-inside.field-0 c.self.invariant above.kept both.kept put.kept (slice_get_read rows (length rows) c.args.m c.index-2.result.now refl row c.index-2.ensures)
    (slice_get_read rows (length rows) c.args.t c.index.result.now refl other c.index.ensures) itself key above.value both.value put.value)

pub returns-clause-maps : goal.returns-clause-maps
returns-clause-maps c = rw (← c.self.view_is) (keeps_both c.in_ok-above.ensures.kept (keeps_both c.in_ok-both.ensures.kept c.in_ok-self-inside.ensures.kept))
