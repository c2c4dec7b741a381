use Rattle.class_world.proofs.Substs.{put_known, put_unknown, told_as}
use Rattle.class_world.proofs.types.+is_put.Goals as goal

pub is_put-returns-in-Some : goal.is_put-returns-in-Some
is_put-returns-in-Some t c =
    let at = c.in-Some.ensures.lookup in
    told_as _ _ _ _ (put_known c.args.args.now c.args.s.now c.in-Some.a.now c.in-Var.k c.in-Var.is at.3.0 at.1) c.is_same.ensures

pub is_put-returns-in-None : goal.is_put-returns-in-None
is_put-returns-in-None t c =
    told_as _ _ _ _ (put_unknown c.args.args.now c.args.s.now c.in-Var.k c.in-Var.is c.in-None.ensures.lookup.3) c.is_same-in-None.ensures
