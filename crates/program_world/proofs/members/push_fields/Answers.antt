use Rattle.program_world.proofs.Own.{fields_all}
use Rattle.program_world.proofs.members.push_fields.Goals as goal

pub returns : goal.returns
returns c = λ p at.
    fields_all p c.args.owner c.as_slice-member-items.result.now c.loop-member.member-index c.args.class.now c.args.fields.now c.loop-member.fields
    c.as_slice-member-items.ensures c.loop-member-test.false (c.loop-member.invariant p at)
