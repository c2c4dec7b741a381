use Rattle.alike_tables.proofs.Told.{told_types}
use Rattle.alike_tables.proofs.tables.tables_alike.Goals as goal

pub returns : goal.returns
returns c = told_types c.args.old.now c.args.new.now c.args.map.now c.are_types_kept.result (c.is_rest_kept.ensures c.if-not-is_rest_kept.false) c.are_types_kept.ensures
