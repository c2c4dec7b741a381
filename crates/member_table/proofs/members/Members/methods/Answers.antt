use Rattle.member_table.proofs.members.Members.methods.Goals as goal

pub returns : goal.returns
returns c w holds known = c.get.ensures w holds.lists holds.counted known
