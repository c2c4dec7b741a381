use Rattle.std.proofs.Common.{sym, ap, ◌∙◌}
use Rattle.std.specs.Prelude.{◌&&◌}
use Rattle.std.specs.Option.{option_map}
use Rattle.class_world.specs.Types.{erased}
use Rattle.thrown_exceptions.proofs.Steps.{ok_as}
use Rattle.type_constraints.specs.Asked.{asked}
use Rattle.type_constraints.specs.Changed as ch
use Rattle.type_constraints.specs.Uses as us
use Rattle.type_constraints.proofs.results.give_alike.Goals as goal

pub returns-then-branch : goal.returns-then-branch
returns-then-branch c =
    λ f are ts ties.
    let a = asked c.args.at.now f ts in
    ok_as c.give_erased_alike.result _ _
    (ap (λ b. b && ch.are_alike f (option_map erased (us.result_after a c.args.k c.args.found.now)) (option_map erased (us.result_after a c.args.method c.args.info.now))) (sym c.if-branch.true ∙ c.in_ok-give_seen_alike.ensures f are ts ties))
    (c.give_erased_alike.ensures f are ts ties)

pub returns : goal.returns
returns c =
    λ f are ts ties.
    let a = asked c.args.at.now f ts in
    ap (λ b. b && ch.are_alike f (option_map erased (us.result_after a c.args.k c.args.found.now)) (option_map erased (us.result_after a c.args.method c.args.info.now))) (sym c.if-branch.false ∙ c.in_ok-give_seen_alike.ensures f are ts ties)
