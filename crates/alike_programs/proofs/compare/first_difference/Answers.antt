use Rattle.std.proofs.Common.{refl}
use Rattle.alike_programs.proofs.Compared.{alike_told}
use Rattle.alike_programs.proofs.compare.first_difference.Goals as goal

pub returns : goal.returns
returns c none =
    let known = c.are_both_known.ensures.0 c.if-not-are_both_known.false in
    alike_told c.args.old.now c.args.new.now _ c.args.map.now refl refl (c.in_ok-tables_alike.ensures c.if-not-branch.false) known.0 known.1
    (c.order_kept.ensures.is.0 c.if-not-order_kept.false) (c.order_kept.ensures.told c.if-not-order_kept.false) (c.calls_found.ensures c.if-not-calls_found.false)
    c.in-Ok.ensures.bodies c.in-Ok.ensures.fields c.in-Ok.ensures.all
