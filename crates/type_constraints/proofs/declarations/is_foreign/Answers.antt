use Rattle.std.proofs.Common.{ap, ◌∙◌}
use Rattle.std.specs.List.{list_any}
use Rattle.type_kinds.specs.Members.{method_at}
use Rattle.type_constraints.specs.Declarations.{is_foreign_method}
use Rattle.type_constraints.proofs.declarations.is_foreign.Goals as goal

pub returns : goal.returns
returns c =
    λ f are t ties.
    let w = c.args.at.now.q.world.now in
    c.some_foreign.ensures ∙ ap (list_any (λ k. is_foreign_method w (method_at w k))) (c.family.ensures f are t ties)
