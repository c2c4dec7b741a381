use Rattle.std.proofs.Common.{◌++◌, ◌∷◌, [], sym, ap, ◌∙◌}
use Rattle.program_world.proofs.Own.{methods_all, methods_own}
use Rattle.program_world.proofs.members.push_methods.Goals as goal

pub returns-in_ok-push : goal.returns-in_ok-push
returns-in_ok-push c = λ p at.
    c.in_ok-push.ensures.ok
    ∙ ap (λ info. c.loop-member.methods ++ info ∷ []) c.in_ok-default_constructor.ensures
    ∙ methods_all p c.args.owner c.as_slice-member-items.result.now c.loop-member.member-index c.args.class.now c.args.methods.now c.loop-member.methods
    c.as_slice-member-items.ensures c.loop-member-test.false (c.loop-member.invariant p at) (sym c.lacks_constructor.ensures ∙ c.if-lacks_constructor.true)

pub returns-else-lacks_constructor : goal.returns-else-lacks_constructor
returns-else-lacks_constructor c = λ p at.
    methods_own p c.args.owner c.as_slice-member-items.result.now c.loop-member.member-index c.args.class.now c.args.methods.now c.loop-member.methods
    c.as_slice-member-items.ensures c.loop-member-test.false (c.loop-member.invariant p at) (sym c.lacks_constructor.ensures ∙ c.if-lacks_constructor.false)
