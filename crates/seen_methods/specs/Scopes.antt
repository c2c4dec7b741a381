-- Types over the parameters of one class: arguments put twice are the ones put at once.
use Rattle.std.specs.Prelude.{◌≡◌, ℕ, List, Some, slice_get, length, map}
use Rattle.class_world.specs.declared.world.World.{World}
use Rattle.class_world.specs.declared.world.TypeInfo.{TypeInfo}
use Rattle.class_world.specs.declared.world.MethodInfo.{MethodInfo}
use Rattle.class_world.specs.declared.world.JavaType.{JavaType}
use Rattle.class_world.specs.Types.{substitute}

-- n arguments leave none of the type's variables
abbrev pub IsOver : ℕ → JavaType → Type 0
IsOver n t = (xs args : List JavaType) → length args ≡ n → substitute xs (substitute args t) ≡ substitute (map (substitute xs) args) t

abbrev pub AreOver : ℕ → List JavaType → Type 0
AreOver n ts = (xs args : List JavaType) → length args ≡ n → map (substitute xs) (map (substitute args) ts) ≡ map (substitute (map (substitute xs) args)) ts

-- the parameter types of the method have no variables but those of the type that declares it
abbrev pub IsScoped : World → ℕ → Type 0
IsScoped w m = (info : MethodInfo) (owner : TypeInfo) → slice_get w.methods m ≡ Some info → slice_get w.types info.owner ≡ Some owner → AreOver owner.params info.params
