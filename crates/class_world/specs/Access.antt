-- Access to members (JLS 6.6), as long as user files are of one package.
use Rattle.std.specs.Prelude.{◌≡◌, ℕ, ◌⊎◌, true, List, Option, Some, slice_get}
use Rattle.std.specs.List.{Contains}
use Rattle.java_tree.specs.declared.tree.Mod.{Mod}
use Rattle.java_tree.specs.declared.tree.Mod.TheVariants as mods
use Rattle.class_world.specs.declared.world.World.{World}
use Rattle.class_world.specs.declared.world.TypeInfo.{TypeInfo}
use Rattle.class_world.specs.declared.world.MethodInfo.{MethodInfo}
use Rattle.class_world.specs.declared.world.FieldInfo.{FieldInfo}
use Rattle.class_world.specs.declared.world.JavaType.{JavaType}
use Rattle.class_world.specs.declared.access.Declared.{Declared}
use Rattle.class_world.specs.declared.access.Declared.TheVariants as declared

abbrev pub IsInterface : World → ℕ → Type 0
IsInterface w c = (info : TypeInfo) × (slice_get w.types c ≡ Some info) × (info.interface ≡ true)

-- public by its modifier, or as a member of an interface (9.3, 9.4)
abbrev pub IsPublic : World → (owner : ℕ) → List Mod → Type 0
IsPublic w owner ms = Contains ms mods.Public ⊎ IsInterface w owner

abbrev pub AreOfOnePackage : World → ℕ → ℕ → Type 0
AreOfOnePackage w c d = (a : TypeInfo) × (b : TypeInfo) × (slice_get w.types c ≡ Some a) × (slice_get w.types d ≡ Some b) × (a.«package» ≡ b.«package»)

-- Accessible in the class c: a public member everywhere, a private one in its class alone, any other in its package.
pub data IsAccessibleFrom (w : World) (c owner : ℕ) (ms : List Mod) : Type 0 where
  everywhere : IsPublic w owner ms → IsAccessibleFrom w c owner ms
  in_its_class : c ≡ owner → IsAccessibleFrom w c owner ms
  in_its_package : (Contains ms mods.Private → ⊥) → AreOfOnePackage w c owner → IsAccessibleFrom w c owner ms

-- A member, by its number, is accessible in the class c. The type by which it is used (none for a static member and for a use by `super` or `this`) matters for protected
-- members of other packages alone, and there are none yet.
abbrev pub Sees : World → ℕ → Declared → (through : Option JavaType) → Type 0
Sees w c (declared.Method m) through = (info : MethodInfo) × (slice_get w.methods m ≡ Some info) × IsAccessibleFrom w c info.owner info.mods
Sees w c (declared.Field f) through = (info : FieldInfo) × (slice_get w.fields f ≡ Some info) × IsAccessibleFrom w c info.owner info.mods
