use Rattle.std.proofs.Common.{subst}
use Rattle.iterables.specs.Walks.{IsIterable}
use Rattle.iterables.proofs.walks.walk_at.Goals as goal

pub returns-else-is_iterable : goal.returns-else-is_iterable
returns-else-is_iterable c = λ v h. let yes = c.is_iterable.ensures.1 (subst (IsIterable c.args.names.now c.args.w.now) h.1 h.0.iterable) in absurd (cc (yes, c.if-is_iterable.false))
