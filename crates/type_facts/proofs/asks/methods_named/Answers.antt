use Rattle.type_facts.proofs.Orders.{same_methods}
use Rattle.type_facts.proofs.asks.methods_named.Goals as goal

pub returns-then-is_known : goal.returns-then-is_known
returns-then-is_known c = λ f are.
    let w = c.args.q.now.world.now in
    let known = c.is_known.ensures.0 c.if-is_known.true in
    same_methods w c.args.c c.args.name c.args.arity c.methods.result.now (f.methods c.args.c c.args.name c.args.arity) known (c.methods.ensures w c.requires.members known)
    (are.methods c.args.c c.args.name c.args.arity)
