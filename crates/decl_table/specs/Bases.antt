-- What the rules need to know of the built-in types.
use Rattle.std.specs.Prelude.{◌≡◌, ℕ, ◌<◌, List, [], Some, slice_get, length}
use Rattle.class_world.specs.declared.world.TypeInfo.{TypeInfo}
use Rattle.class_world.specs.declared.world.JavaType.{JavaType}
use Rattle.class_world.specs.declared.world.JavaType.TheVariants as ty

-- a type without type parameters, whose supertypes are of lower numbers and without arguments
abbrev pub IsBase : ℕ → TypeInfo → Type 0
IsBase c info = (info.params ≡ 0) × ((k : ℕ) (d : JavaType) → slice_get info.supers k ≡ Some d → (p : ℕ) × (p < c) × (d ≡ ty.Class p []))

pub record AreBases (types : List TypeInfo) : Type 0 where
  pub count : length types ≡ 19
  pub each : (c : ℕ) (info : TypeInfo) → slice_get types c ≡ Some info → IsBase c info
