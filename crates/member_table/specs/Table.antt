-- What is known of a program's members, and the rules on them.
use Rattle.std.specs.Prelude.{Result, Ok, Err}
use Rattle.java_tree.specs.declared.fault.Family.TheVariants as family
use Rattle.java_tree.specs.declared.fault.Fault.{Fault}
use Rattle.java_tree.specs.declared.fault.Fault.TheVariants as fault
use Rattle.rule_order.specs.First.{Breaches, Either, IsNone, IsFirstOf}
use Rattle.class_world.specs.declared.world.World.{World}
use Rattle.member_fields.specs.Fields.{HoldsFields}
use Rattle.overrides.specs.Overrides.{HoldsOverrides}
use Rattle.member_methods.specs.Methods.{HoldsMethods}
use Rattle.counted_methods.specs.Table.{HoldsCounted}
use Rattle.method_groups.specs.Groups.{HoldsGroups}
use Rattle.found_methods.specs.Found.{HoldsFound}
use Rattle.override_rules.specs.Rules.{OverrideBreaches}
use Rattle.inherited_rules.specs.Rules.{InheritedBreaches}
use Rattle.member_table.specs.declared.members.Members.{Members}

-- DR13 to DR20
abbrev pub MemberBreaches : World → Breaches
MemberBreaches w = Either (OverrideBreaches w) (InheritedBreaches w)

-- the tables are those of the world
pub record HoldsMembers (w : World) (t : Members) : Type 0 where
  pub fields : HoldsFields w t.fields
  pub lists : HoldsMethods w t.lists
  pub counted : HoldsCounted w t.counted
  pub overrides : HoldsOverrides w t.overrides
  pub groups : HoldsGroups w t.groups
  pub found : HoldsFound w t.found

-- No rule is broken, and the tables are those of the world; or the first broken rule. Nothing is said where memory ran out.
abbrev pub IsTabling : World → Result Members Fault → Type 0
IsTabling w (Ok t) = IsNone (MemberBreaches w) × HoldsMembers w t
IsTabling w (Err (fault.Broken b)) = IsFirstOf family.DR (MemberBreaches w) b
IsTabling w (Err fault.NoMemory) = Unit {0}
