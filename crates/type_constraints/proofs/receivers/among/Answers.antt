use Rattle.std.proofs.Common.{ap, ◌∙◌}
use Rattle.thrown_exceptions.proofs.Steps.{ok_as, pair}
use Rattle.type_constraints.specs.declared.unmet.Constraint.TheVariants as kind
use Rattle.type_constraints.specs.Asked.{asked}
use Rattle.type_constraints.specs.Unmets.{unless}
use Rattle.type_constraints.specs.Uses as us
use Rattle.type_constraints.proofs.receivers.among.Goals as goal

pub returns : goal.returns
returns c =
    λ f are ts ties.
    let a = asked c.args.at.now f ts in
    ok_as c.found.result _ _
    (pair (λ k s. us.found a c.args.u.now.node c.args.u.now.new.now c.args.u.now.old.now k c.args.u.now.method c.args.u.now.info.now s) _ _ _ _ (c.found_among.ensures f are ts ties) (c.unless-first.ensures ∙ ap (λ b. unless b c.args.u.now.node.id kind.Overload c.args.first) (c.are_known-known.ensures f are ts ties)))
    (c.found.ensures f are ts ties)
