-- What the judging of a program's members answers.
use Rattle.std.specs.Prelude.{Some}
use Rattle.rule_order.specs.First.{IsFirst, IsNone}
use Rattle.class_world.specs.declared.world.World.{World}
use Rattle.member_table.specs.declared.build.Judged.{Judged}
use Rattle.member_table.specs.declared.build.Judged.TheVariants as judged
use Rattle.member_table.specs.Table.{HoldsMembers, MemberBreaches}

abbrev pub IsJudged : World → Judged → Type 0
IsJudged w (judged.Tabled t) = IsNone (MemberBreaches w) × HoldsMembers w t
IsJudged w (judged.Refused b) = IsFirst (MemberBreaches w) (Some b)
