-- What is known of the methods of a world.
use Rattle.class_world.specs.declared.world.World.{World}
use Rattle.overrides.specs.Rounds.{HoldsOverriding}
use Rattle.overrides.specs.Families.{AreLabels, AreFamilies}
use Rattle.overrides.specs.declared.Overrides.{Overrides}

-- Each method's row has what it overrides, and its label's list has its family.
pub record HoldsOverrides (w : World) (t : Overrides) : Type 0 where
  pub overriding : HoldsOverriding w t.table
  pub labels : AreLabels w t.labels.items
  pub families : AreFamilies t.labels.items t.families.items
