use Rattle.std.proofs.Common.{◌++◌, [], ◌∷◌, ap, ◌∙◌}
use Rattle.java_tree.specs.declared.tree.TypeExpr.{out-TypeExpr}
use Rattle.declared_types.specs.declared.spelling.Sign.TheVariants as sign
use Rattle.declared_types.specs.Spelling.{head_sign}
use Rattle.declared_types.proofs.Steps.{args_spelled, spelled_behind, spelled_next}
use Rattle.declared_types.proofs.spelling.+spell.Goals as goal

pub spell-returns : goal.spell-returns
spell-returns t c = λ p at.
    let old = c.args.signs.now.items in
    let n = c.head_sign-head.result in
    let mid = c.extend_from_slice.new.self.items in
    spelled_behind p c.args.x.now n old mid c.spell_all.new.signs.items (c.head_sign-head.ensures ∙ ap head_sign (c.head_named.ensures p at))
    (c.in_ok-extend_from_slice.ensures.items ∙ ap (λ k. old ++ (sign.Levels (out-TypeExpr c.args.x.now).dims ∷ n ∷ sign.Arguments k ∷ [])) c.len.ensures)
    (c.in_ok-spell_all.ensures p at ∙ ap (λ xs. mid ++ args_spelled p xs) c.as_slice.ensures)

pub spell_all-loop-x-preserved : goal.spell_all-loop-x-preserved
spell_all-loop-x-preserved t c = λ p at.
    spelled_next p c.args.xs.now c.loop-x.x-index c.x-item.result c.loop-x.signs.items c.spell.new.signs.items _ c.loop-x-test.true c.x-item.is (c.in_ok-spell.ensures p at) (c.loop-x.invariant p at)
