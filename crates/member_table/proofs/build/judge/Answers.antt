use Rattle.std.proofs.Common.{subst}
use Rattle.rule_order.specs.First.{IsFirst}
use Rattle.member_table.specs.Table.{MemberBreaches}
use Rattle.member_table.proofs.build.judge.Goals as goal

pub returns-in-Some : goal.returns-in-Some
returns-in-Some c = subst (IsFirst (MemberBreaches c.args.w.now)) c.in-Some.is c.in_ok-breach.ensures
