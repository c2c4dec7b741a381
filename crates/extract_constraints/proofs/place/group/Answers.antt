use Rattle.std.proofs.Common.{refl, sym, ◌∙◌}
use Rattle.type_constraints.proofs.Lists.{no_list, same_list, true_is_not_false}
use Rattle.extract_constraints.proofs.place.group.Goals as goal

pub returns-then-is_known : goal.returns-then-is_known
returns-then-is_known c =
    λ k told.
    let w = c.args.at.now.reader.q.world.now in
    let known = c.is_known.ensures.0 c.if-is_known.true in
    same_list w c.args.method _ _ _ known (c.group.ensures w c.requires.members known) (told.ties.group c.args.method)

pub returns-else-is_known : goal.returns-else-is_known
returns-else-is_known c =
    λ k told.
    no_list c.args.at.now.reader.q.world.now c.args.method _ _ _ (λ known. true_is_not_false (sym (c.is_known.ensures.1 known) ∙ c.if-is_known.false)) refl (told.ties.group c.args.method)
