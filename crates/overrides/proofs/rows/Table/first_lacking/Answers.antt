use Rattle.std.proofs.Common.{ap, subst}
use Rattle.shared_maps.specs.Trees.{IsFirst}
use Rattle.shared_maps.specs.Maps.{IsLacking, value_in}
use Rattle.overrides.specs.Tables.{Rows, value_at}
use Rattle.overrides.proofs.Lacking.{first_as}
use Rattle.overrides.proofs.rows.Table.first_lacking.Goals as goal

pub returns-clause-first : goal.returns-clause-first
returns-clause-first c =
    let table = c.args.self.now in
    let lower = c.row.result in
    let upper = c.row-2.result in
    let first = subst (λ maps. IsFirst (IsLacking (value_in maps lower) (value_in maps upper) c.args.from) c.first_lacking.result) (ap (λ (t : Rows). t.maps) c.self.view_is) c.first_lacking.ensures.first in
    first_as (value_in table.maps lower) (value_at table c.args.m) (value_in table.maps upper) (value_at table c.args.t) c.args.from c.first_lacking.result c.row.ensures.value c.row-2.ensures.value first
