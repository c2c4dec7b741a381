-- The members of a declared type (JLS 8.2, 8.3, 8.4.8, 9.2): what it declares, and of the members of the types directly above it those that are not private and that
-- no declaration of its own hides or overrides. As long as user files are of one package, package access takes no member from a class below.
use Rattle.std.specs.Prelude.{◌≡◌, ℕ, ◌⊎◌, true, List, [], Option, Some, None, slice_get, length}
use Rattle.std.specs.List.{Contains}
use Rattle.java_tree.specs.declared.tree.Name.{Name}
use Rattle.java_tree.specs.declared.tree.Mod.TheVariants as mods
use Rattle.class_world.specs.declared.world.World.{World}
use Rattle.class_world.specs.declared.world.TypeInfo.{TypeInfo}
use Rattle.class_world.specs.declared.world.MethodInfo.{MethodInfo}
use Rattle.class_world.specs.declared.world.FieldInfo.{FieldInfo}
use Rattle.class_world.specs.declared.world.JavaType.{JavaType, out-JavaType}
use Rattle.class_world.specs.declared.world.JavaType.TheVariants as ty
use Rattle.class_world.specs.declared.world.JavaType.TheOpen as form
use Rattle.class_world.specs.declared.world.JavaType.TheOpen.{JavaType-F}
use Rattle.class_world.specs.DirectSupers.{IsDirectSuper}
use Rattle.class_world.specs.Signatures.{IsMethod, HaveOneSignatureIn}

-- The class s is that of a declared supertype of c; or it is Object, and c an interface that declares none (9.2).
abbrev pub IsDirectlyAbove : World → ℕ → ℕ → Type 0
IsDirectlyAbove w c s =
    ((args : List JavaType) × IsDirectSuper w c (ty.Class s args)) ⊎ ((s ≡ 0) × ((info : TypeInfo) × (slice_get w.types c ≡ Some info) × (info.interface ≡ true) × (info.supers ≡ [])))

-- ---- fields

abbrev pub DeclaresField : World → ℕ → ℕ → FieldInfo → Type 0
DeclaresField w c f info = (slice_get w.fields f ≡ Some info) × (info.owner ≡ c)

-- the field f is a member of the type c (8.3, 9.3)
pub data IsMemberField (w : World) : ℕ → ℕ → Type 0 where
  declared : {c f : ℕ} {info : FieldInfo} → DeclaresField w c f info → IsMemberField w c f
  inherited : {c s f : ℕ} {info : FieldInfo} → IsDirectlyAbove w c s → IsMemberField w s f → slice_get w.fields f ≡ Some info
      → (Contains info.mods mods.Private → ⊥) → ((k : ℕ) (own : FieldInfo) → DeclaresField w c k own → own.name ≡ info.name → ⊥) → IsMemberField w c f

-- the declared type whose members a reference type has: its class, and Object for a type variable and an array (4.4, 10.7)
abbrev pub holder_of : JavaType-F JavaType → Option ℕ
holder_of (form.Prim p) = None
holder_of form.Null = None
holder_of (form.Class c xs) = Some c
holder_of (form.Var k) = Some 0
holder_of (form.Array x) = Some 0

abbrev pub holder : JavaType → Option ℕ
holder t = holder_of (out-JavaType t)

-- a member field of the type t with this name
abbrev pub IsFieldNamed : World → JavaType → Name → ℕ → Type 0
IsFieldNamed w t n f = ((c : ℕ) × (holder t ≡ Some c) × IsMemberField w c f) × ((info : FieldInfo) × (slice_get w.fields f ≡ Some info) × (info.name ≡ n))

-- The field that a name means in the type t: the only member field of the name. Where there is none, or more than one, the name means no field.
abbrev pub FieldIs : World → JavaType → Name → Option ℕ → Type 0
FieldIs w t n None = (f : ℕ) → IsFieldNamed w t n f → (g : ℕ) × IsFieldNamed w t n g × (g ≡ f → ⊥)
FieldIs w t n (Some f) = IsFieldNamed w t n f × ((g : ℕ) → IsFieldNamed w t n g → g ≡ f)

-- ---- methods

abbrev pub DeclaresMethod : World → ℕ → ℕ → Type 0
DeclaresMethod w c m = (info : MethodInfo) × IsMethod w m info × (info.owner ≡ c)

abbrev pub IsPrivateMethod : World → ℕ → Type 0
IsPrivateMethod w m = (info : MethodInfo) × (slice_get w.methods m ≡ Some info) × Contains info.mods mods.Private

-- The method m is a member of the type c: c declares it; or it is a member of the class of a type directly above c and not private, and no declaration of c has its
-- signature. (Of an instance and a static method one neither hides nor overrides the other, but there DR17 is broken.)
pub data IsMemberMethod (w : World) : ℕ → ℕ → Type 0 where
  declared : {c m : ℕ} → DeclaresMethod w c m → IsMemberMethod w c m
  inherited : {c s m : ℕ} → IsDirectlyAbove w c s → IsMemberMethod w s m → (IsPrivateMethod w m → ⊥) → ((k : ℕ) → DeclaresMethod w c k → HaveOneSignatureIn w c k m → ⊥)
      → IsMemberMethod w c m

-- the type c has the method m from s, the class of a type directly above it
abbrev pub Inherits : World → ℕ → ℕ → ℕ → Type 0
Inherits w c s m = IsDirectlyAbove w c s × IsMemberMethod w s m × (IsPrivateMethod w m → ⊥) × ((k : ℕ) → DeclaresMethod w c k → HaveOneSignatureIn w c k m → ⊥)

-- member methods of c with this name and this number of parameters
abbrev pub IsMethodNamed : World → ℕ → Name → ℕ → ℕ → Type 0
IsMethodNamed w c n arity m = IsMemberMethod w c m × ((info : MethodInfo) × IsMethod w m info × (info.name ≡ n) × (length info.params ≡ arity))

-- The group of a method: itself, and each method of its name and number of parameters that is, together with it, a member of some type. That of a constructor: those
-- of its class with its number of parameters.
pub data IsGrouped (w : World) (m : ℕ) : ℕ → Type 0 where
  itself : IsGrouped w m m
  beside : {c k arity : ℕ} {n : Name} → IsMethodNamed w c n arity m → IsMethodNamed w c n arity k → IsGrouped w m k
  constructors : {k : ℕ} {i j : MethodInfo} → slice_get w.methods m ≡ Some i → slice_get w.methods k ≡ Some j → i.constructor ≡ true → j.constructor ≡ true
      → i.owner ≡ j.owner → length i.params ≡ length j.params → IsGrouped w m k
