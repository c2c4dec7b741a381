-- What the building of the table answers.
use Rattle.std.specs.Prelude.{◌≡◌, ℕ, ◌<◌, Option, None, Some, slice_get}
use Rattle.class_world.specs.declared.world.World.{World}
use Rattle.class_world.specs.declared.world.TypeInfo.{TypeInfo}
use Rattle.class_world.specs.declared.order_table.Ordered.{Ordered}
use Rattle.class_world.specs.declared.order_table.Ordered.TheVariants as answer
use Rattle.class_world.specs.Types.{with_own}
use Rattle.class_world.specs.Subtypes.{IsBelowTwo}
use Rattle.class_world.specs.Sound.{IsSound, IsSingle}
use Rattle.class_world.specs.Merged.{IsAboveItself}

-- the world is the same but for its table
abbrev pub SameBut : World → World → Type 0
SameBut w v = (v.types ≡ w.types) × (v.methods ≡ w.methods) × (v.fields ≡ w.fields) × (v.walk ≡ w.walk)

-- the class with its own variables is below two parameterizations of one class
abbrev pub IsClassBelowTwo : World → ℕ → Type 0
IsClassBelowTwo w c = (info : TypeInfo) × (slice_get w.types c ≡ Some info) × (g : ℕ) × IsBelowTwo w (with_own c info.params) g

-- it is below at most one parameterization of each class
abbrev pub IsSingleClass : World → ℕ → Type 0
IsSingleClass w c = (info : TypeInfo) → slice_get w.types c ≡ Some info → IsSingle w c info.params

-- the first class that is below two, by number
abbrev pub IsFirstBelowTwo : World → Option ℕ → Type 0
IsFirstBelowTwo w None = (c : ℕ) → IsClassBelowTwo w c → ⊥
IsFirstBelowTwo w (Some c) = IsClassBelowTwo w c × ((d : ℕ) → d < c → IsClassBelowTwo w d → ⊥)

abbrev pub IsOrdered : World → Ordered → Type 0
IsOrdered w (answer.Sound v) = IsSound v × SameBut w v
IsOrdered w (answer.AboveItself c) = IsAboveItself w c
IsOrdered w (answer.BelowTwo c) = IsClassBelowTwo w c
