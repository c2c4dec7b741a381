-- What the search for types below two parameterizations answers.
use Rattle.std.specs.Prelude.{◌≡◌, ◌⊎◌, ℕ, Option, Some, None, slice_get, option_and_then}
use Rattle.rule_order.specs.declared.Breach.{Breach}
use Rattle.class_world.specs.declared.world.World.{World}
use Rattle.class_world.specs.declared.world.TypeInfo.{TypeInfo}
use Rattle.class_world.specs.Ordered.{IsFirstBelowTwo}

-- the node of a type, if it has one
abbrev pub node_at : World → ℕ → Option ℕ
node_at w c = option_and_then (λ (info : TypeInfo). info.node) (slice_get w.types c)

-- the type of the first number is named by its node; a type without one is passed over
abbrev pub IsFirstClash : World → Option Breach → Type 0
IsFirstClash w (Some b) = (c : ℕ) × IsFirstBelowTwo w (Some c) × (node_at w c ≡ Some b.node) × (b.rule ≡ 4)
IsFirstClash w None = IsFirstBelowTwo w None ⊎ ((c : ℕ) × IsFirstBelowTwo w (Some c) × (node_at w c ≡ None))
