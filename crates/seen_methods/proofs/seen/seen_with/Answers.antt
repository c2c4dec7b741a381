use Rattle.std.proofs.Common.{sym, subst}
use Rattle.class_world.specs.Types.{IsTypeOver}
use Rattle.class_world.proofs.Orders.{own_over}
use Rattle.seen_methods.proofs.seen.seen_with.Goals as goal

pub super_as-requires-clause-types : goal.super_as-requires-clause-types
super_as-requires-clause-types c =
    let seen = (c.is_above.ensures.0 c.if-not-is_above.false).1 in
    (seen.0.params, subst (IsTypeOver c.args.w.now seen.0.params) (sym (c.in_ok-own.ensures seen.0 seen.1)) (own_over c.args.w.now c.args.c seen.0 seen.1))
