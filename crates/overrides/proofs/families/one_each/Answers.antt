use Rattle.std.proofs.Common.{◌++◌, ◌∷◌, [], ap, ◌∙◌}
use Rattle.overrides.proofs.Groups.{single_next, single_groups}
use Rattle.overrides.proofs.families.one_each.Goals as goal

pub loop-m-preserved : goal.loop-m-preserved
loop-m-preserved c =
    single_next c.loop-m.labels.items c.loop-m.members.items c.loop-m.m c.loop-m.invariant c.push.new.self.items c.push-in-loop-m.new.self.items c.in_ok-push.ensures.items
    (c.in_ok-push-2.ensures.items ∙ ap (λ xs. c.loop-m.members.items ++ xs ∷ []) c.in_ok-one.ensures)

pub returns-clause-groups : goal.returns-clause-groups
returns-clause-groups c = single_groups c.loop-m.labels.items c.loop-m.members.items c.loop-m.m c.loop-m.invariant
