-- Overriding (JLS 8.4.8.1, 8.4.8.4, 9.4.1), families, and the method that runs (15.12.4.4).
use Rattle.std.specs.Prelude.{◌≡◌, ℕ, ◌<◌, ◌⊎◌, true, false, List, Option, Some, None, slice_get, map}
use Rattle.std.specs.List.{Contains}
use Rattle.java_tree.specs.declared.tree.Mod.TheVariants as mods
use Rattle.class_world.specs.declared.world.World.{World}
use Rattle.class_world.specs.declared.world.TypeInfo.{TypeInfo}
use Rattle.class_world.specs.declared.world.MethodInfo.{MethodInfo}
use Rattle.class_world.specs.declared.world.JavaType.{JavaType}
use Rattle.class_world.specs.declared.world.JavaType.TheVariants as ty
use Rattle.class_world.specs.DirectSupers.{IsDirectSuper}
use Rattle.class_world.specs.Types.{substitute}
use Rattle.class_world.specs.Signatures.{IsMethod, HaveOneSignatureIn, AgreeBelow}
use Rattle.class_world.specs.Access.{IsInterface}
use Rattle.class_world.specs.Inheritance.{DeclaresMethod, IsDirectlyAbove, IsPrivateMethod, Inherits, IsMemberMethod}

-- not static (and no constructor)
abbrev pub IsInstanceMethod : World → ℕ → Type 0
IsInstanceMethod w m = (info : MethodInfo) × IsMethod w m info × (Contains info.mods mods.Static → ⊥)

abbrev pub IsClass : World → ℕ → Type 0
IsClass w c = (info : TypeInfo) × (slice_get w.types c ≡ Some info) × (info.interface ≡ false)

-- s is the superclass of the class c
abbrev pub IsSuperclass : World → ℕ → ℕ → Type 0
IsSuperclass w c s = IsClass w c × ((args : List JavaType) × IsDirectSuper w c (ty.Class s args)) × IsClass w s

-- i is a direct superinterface of the type c
abbrev pub IsSuperinterface : World → ℕ → ℕ → Type 0
IsSuperinterface w c i = ((args : List JavaType) × IsDirectSuper w c (ty.Class i args)) × IsInterface w i

-- the class c has m from its superclass and k from a superinterface, and m is one that a class declares
abbrev pub InheritsBoth : World → ℕ → ℕ → ℕ → Type 0
InheritsBoth w c m k =
    ((s : ℕ) × IsSuperclass w c s × Inherits w c s m) × ((i : ℕ) × IsSuperinterface w c i × Inherits w c i k)
    × ((o : ℕ) × DeclaresMethod w o m × IsClass w o)

-- The method m, which the type c declares, takes the place of k: k is a member of the class of a type directly above c and not private, and m has its signature in c. (An
-- instance method overrides an instance method, a static one hides a static one; of others DR17 is broken.)
abbrev pub Replaces : World → ℕ → ℕ → ℕ → Type 0
Replaces w c m k = DeclaresMethod w c m × ((s : ℕ) × IsDirectlyAbove w c s × IsMemberMethod w s k) × (IsPrivateMethod w k → ⊥) × HaveOneSignatureIn w c m k

-- The class c has two methods of one signature from both sides, whatever their own types are to each other. (One of Object's methods, which an interface without superinterfaces
-- hands down too, is one method, and does not meet itself.)
abbrev pub MeetIn : World → ℕ → ℕ → ℕ → Type 0
MeetIn w c m k = InheritsBoth w c m k × (m ≡ k → ⊥) × HaveOneSignatureIn w c m k

abbrev pub AreInstanceMethods : World → ℕ → ℕ → Type 0
AreInstanceMethods w m k = IsInstanceMethod w m × IsInstanceMethod w k

-- The method m overrides k at once: where it is declared it takes its place (8.4.8.1); or some class has m from its superclass and k from an interface (8.4.8.4), if both
-- have one signature in each type below those that declare them (in the first case they have, where parameter types hold their own type's variables alone).
pub data OverridesAtOnce (w : World) (m k : ℕ) : Type 0 where
  declared : {c : ℕ} → Replaces w c m k → AreInstanceMethods w m k → OverridesAtOnce w m k
  inherited : {c : ℕ} → MeetIn w c m k → AreInstanceMethods w m k → AgreeBelow w m k → OverridesAtOnce w m k

-- The method m overrides k: at once, or through a third, which it overrides and which overrides k; then too only where m and k have one signature in each type below
-- those that declare them. Private methods are not overridden, and no method overrides itself.
pub data Overriding (w : World) : ℕ → ℕ → Type 0 where
  at_once : {m k : ℕ} → OverridesAtOnce w m k → Overriding w m k
  through : {m t k : ℕ} → Overriding w m t → Overriding w t k → (m ≡ k → ⊥) → AgreeBelow w m k → Overriding w m k

-- The family of a method: all that overriding ties to it, in either direction.
pub data IsFamily (w : World) (m : ℕ) : ℕ → Type 0 where
  itself : IsFamily w m m
  above : {t k : ℕ} → IsFamily w m t → Overriding w t k → IsFamily w m k
  below : {t k : ℕ} → IsFamily w m t → Overriding w k t → IsFamily w m k

-- the parameter types hold no type variable, and are the same
abbrev pub HaveOneParameterList : World → ℕ → ℕ → Type 0
HaveOneParameterList w m k =
    (i : MethodInfo) × (j : MethodInfo) × IsMethod w m i × IsMethod w k j × (i.params ≡ j.params) × ((args : List JavaType) → map (substitute args) i.params ≡ i.params)

-- On an object of the class o the method k is seen with m's parameter types: it overrides a member of o that overrides m.
abbrev pub OverridesForOn : World → ℕ → ℕ → ℕ → Type 0
OverridesForOn w o k m = (t : ℕ) × IsMemberMethod w o t × Overriding w t m × Overriding w k t

-- For an object of the class o, the class c declares k, of m's family, which is m, overrides m, or has m's parameter types.
abbrev pub Answers : World → ℕ → ℕ → ℕ → ℕ → Type 0
Answers w o m c k =
    IsClass w c × DeclaresMethod w c k × IsFamily w m k × ((k ≡ m) ⊎ Overriding w k m ⊎ HaveOneParameterList w k m ⊎ OverridesForOn w o k m)

-- The first class from c upwards, along superclasses, that declares an answer; where it declares more, the first of them.
pub data IsAnswer (w : World) (o m : ℕ) : ℕ → ℕ → Type 0 where
  here : {c k : ℕ} → Answers w o m c k → ((j : ℕ) → j < k → Answers w o m c j → ⊥) → IsAnswer w o m c k
  further : {c s k : ℕ} → ((j : ℕ) → Answers w o m c j → ⊥) → IsSuperclass w c s → IsAnswer w o m s k → IsAnswer w o m c k

-- methods that no object's class chooses
abbrev pub IsFixed : World → ℕ → Type 0
IsFixed w m = (info : MethodInfo) × (slice_get w.methods m ≡ Some info) × ((info.constructor ≡ true) ⊎ Contains info.mods mods.Static ⊎ Contains info.mods mods.Private)

-- The lookup of a method on an object of the class c: a constructor, a static and a private method are themselves.
pub data IsFound (w : World) (m c : ℕ) : ℕ → Type 0 where
  fixed : IsFixed w m → IsFound w m c m
  chosen : {k : ℕ} → (IsFixed w m → ⊥) → IsAnswer w c m c k → IsFound w m c k

abbrev pub FoundIs : World → ℕ → ℕ → Option ℕ → Type 0
FoundIs w m c None = (k : ℕ) → IsFound w m c k → ⊥
FoundIs w m c (Some k) = IsFound w m c k
