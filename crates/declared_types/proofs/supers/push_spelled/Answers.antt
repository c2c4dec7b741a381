use Rattle.std.proofs.Common.{◌++◌, ap, ◌∙◌}
use Rattle.java_tree.specs.View.{type_plain}
use Rattle.declared_types.specs.Spelling.{spelled}
use Rattle.declared_types.proofs.Deciding.{spelled_before, spelled_more}
use Rattle.declared_types.proofs.supers.push_spelled.Goals as goal

pub returns-clause-again : goal.returns-clause-again
returns-clause-again c = λ p before at held.
    let x = type_plain c.args.x.now in
    spelled_before p before x c.spell.new.signs.items c.in_ok-is_new.is_new _ (c.in_ok-spell.ensures p at ∙ ap (λ l. l ++ spelled p x) c.new-signs.ensures.items) c.in_ok-is_new.ensures.added
    (held c.spell.new.signs)

pub returns-clause-held : goal.returns-clause-held
returns-clause-held c = λ p before at held q.
    let x = type_plain c.args.x.now in
    spelled_more p before x c.spell.new.signs.items q.items _ _ (c.in_ok-spell.ensures p at ∙ ap (λ l. l ++ spelled p x) c.new-signs.ensures.items) (c.in_ok-is_new.ensures.updates.0 q) (held q)
