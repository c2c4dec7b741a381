use Rattle.std.proofs.Common.{◌<◌, refl, sym, subst, length}
use Rattle.std.proofs.lemmas.Option.{slice_get_read}
use Rattle.overrides.specs.Tables.{Rows}
use Rattle.overrides.proofs.Grids.{table_kept, table_set, set_written}
use Rattle.found_methods.proofs.table.Table.set.Goals as goal

pub invariant_of-self : goal.invariant_of-self
invariant_of-self c = table_kept c.self.invariant c.in_err-self-inside.ensures.kept

pub invariant_of-self-2 : goal.invariant_of-self-2
invariant_of-self-2 c = table_set c.args.row c.in_ok-self-inside.field-0 c.self.invariant c.in_ok-self-inside.ensures.kept c.in_ok-self-inside.ensures.map

pub returns-clause-written : goal.returns-clause-written
returns-clause-written c =
    let rows = c.self.inside.rows.items in
    let put = c.in_ok-self-inside.ensures in
    let row : c.args.row < length rows = subst (λ (t : Rows). c.args.row < length t.rows) (sym c.self.view_is) c.requires.row in
    let key : c.args.key < c.self.inside.maps.keys = subst (λ (t : Rows). c.args.key < t.maps.keys) (sym c.self.view_is) c.requires.key in
    rw (← c.self.view_is)
    (set_written c.self.inside.maps c.put.new.self rows c.args.row c.args.key c.args.value c.index.result.now c.in_ok-self-inside.field-0 c.self.invariant put.kept
    (slice_get_read rows (length rows) c.args.row c.index.result.now refl row c.index.ensures) key put.value)
