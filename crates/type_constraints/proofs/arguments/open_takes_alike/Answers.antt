use Rattle.std.proofs.Common.{sym, ap, ◌∙◌}
use Rattle.std.specs.Prelude.{◌||◌, not}
use Rattle.java_core.specs.View.{plain}
use Rattle.type_kinds.specs.Members.{method_at}
use Rattle.thrown_exceptions.proofs.Steps.{ok_as}
use Rattle.type_constraints.specs.Arguments as ar
use Rattle.type_constraints.specs.Asked.{asked}
use Rattle.type_constraints.proofs.arguments.open_takes_alike.Goals as goal

pub returns-then-is_open : goal.returns-then-is_open
returns-then-is_open c =
    λ f are ts ties.
    let a = asked c.args.at.now f ts in
    ok_as c.known_takes_alike.result _ _
    (ap (λ b. not b || ar.known_takes_alike a c.args.t.now c.args.index (plain c.args.x.now) (method_at c.args.at.now.q.world.now c.args.k)) (sym c.if-is_open.true ∙ c.is_open.ensures f are ts ties))
    (c.known_takes_alike.ensures f are ts ties)

pub returns : goal.returns
returns c =
    λ f are ts ties.
    let a = asked c.args.at.now f ts in
    ap (λ b. not b || ar.known_takes_alike a c.args.t.now c.args.index (plain c.args.x.now) (method_at c.args.at.now.q.world.now c.args.k)) (sym c.if-is_open.false ∙ c.is_open.ensures f are ts ties)
