-- What unchecked casts are told by.
use Rattle.std.specs.Prelude.{◌≡◌, ℕ, List, Option, Some, None, slice_get}
use Rattle.class_world.specs.declared.world.World.{World}
use Rattle.class_world.specs.declared.world.TypeInfo.{TypeInfo}
use Rattle.class_world.specs.declared.world.JavaType.{JavaType}
use Rattle.class_world.specs.Subtypes.{Parameterizes, Subtype}
use Rattle.class_world.specs.Types.{substitute}
use Rattle.unchecked_ops.specs.Casting.{Hold}

abbrev pub HasArgs : JavaType → Type 0
HasArgs t = (g : ℕ) × Parameterizes g t

-- the class g has n type parameters
abbrev pub HasParams : World → ℕ → ℕ → Type 0
HasParams w g n = (info : TypeInfo) × (slice_get w.types g ≡ Some info) × (info.params ≡ n)

-- the parameterization of h above t, where there is one
abbrev pub BaseIs : World → JavaType → ℕ → Option JavaType → Type 0
BaseIs w t h None = (u : JavaType) → Parameterizes h u → Subtype w t u → ⊥
BaseIs w t h (Some u) = Parameterizes h u × Subtype w t u × ((v : JavaType) → Parameterizes h v → Subtype w t v → v ≡ u)

-- a form of a class's n variables, with these arguments for them, is what is above the operand's type, and each of the variables stands in it
abbrev pub IsLed : (above form : Option JavaType) → ℕ → List JavaType → Type 0
IsLed None form n args = ⊥
IsLed (Some a) None n args = ⊥
IsLed (Some a) (Some x) n args = Hold n x × (substitute args x ≡ a)
