use Rattle.unchecked_ops.proofs.Orders.{told_as}
use Rattle.unchecked_ops.proofs.exprs.is_cast.Goals as goal

pub returns : goal.returns
returns c = λ u m. told_as c.is_unchecked_cast.result (u c.args.s.now c.args.t.now) _ (m.says c.args.s.now c.args.t.now) c.is_unchecked_cast.ensures
