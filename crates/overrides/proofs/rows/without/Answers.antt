use Rattle.shared_maps.specs.Maps.{value_in}
use Rattle.shared_maps.proofs.Kept.{keeps_itself}
use Rattle.overrides.proofs.Grids.{without_none}
use Rattle.overrides.proofs.Places.{absent}
use Rattle.overrides.proofs.rows.without.Goals as goal

pub returns-then-is_none-clause-value : goal.returns-then-is_none-clause-value
returns-then-is_none-clause-value c =
    let value = value_in c.args.maps.now c.args.map c.args.key in
    without_none c.args.maps.now c.args.map c.args.key (absent c.get.result value c.is_none.result c.get.ensures c.is_none.ensures c.if-is_none.true)

pub returns-then-is_none-clause-kept : goal.returns-then-is_none-clause-kept
returns-then-is_none-clause-kept c = keeps_itself c.args.maps.now
