-- What methods and fields declare is made of types of the world, over the type variables of the type that declares them.
use Rattle.std.specs.Prelude.{◌≡◌, ℕ, Some, slice_get}
use Rattle.class_world.specs.declared.world.World.{World}
use Rattle.class_world.specs.declared.world.TypeInfo.{TypeInfo}
use Rattle.class_world.specs.declared.world.MethodInfo.{MethodInfo}
use Rattle.class_world.specs.declared.world.FieldInfo.{FieldInfo}
use Rattle.class_world.specs.declared.world.JavaType.{JavaType}
use Rattle.class_world.specs.Types.{IsTypeOver}
use Rattle.class_world.specs.Sound.{IsKnown}

pub record HaveTypes (w : World) : Type 0 where
  pub params : (m k : ℕ) (info : MethodInfo) (own : TypeInfo) (t : JavaType) → slice_get w.methods m ≡ Some info → slice_get w.types info.owner ≡ Some own
      → slice_get info.params k ≡ Some t → IsTypeOver w own.params t
  pub results : (m : ℕ) (info : MethodInfo) (own : TypeInfo) (t : JavaType) → slice_get w.methods m ≡ Some info → slice_get w.types info.owner ≡ Some own
      → info.result ≡ Some t → IsTypeOver w own.params t
  pub throws : (m k : ℕ) (info : MethodInfo) (own : TypeInfo) (t : JavaType) → slice_get w.methods m ≡ Some info → slice_get w.types info.owner ≡ Some own
      → slice_get info.throws k ≡ Some t → IsTypeOver w own.params t
  pub fields : (f : ℕ) (info : FieldInfo) (own : TypeInfo) → slice_get w.fields f ≡ Some info → slice_get w.types info.owner ≡ Some own → IsTypeOver w own.params info.ty
  pub owners : ((m : ℕ) (info : MethodInfo) → slice_get w.methods m ≡ Some info → IsKnown w info.owner) × ((f : ℕ) (info : FieldInfo) → slice_get w.fields f ≡ Some info → IsKnown w info.owner)
