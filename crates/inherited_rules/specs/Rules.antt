-- DR18 to DR20: what the members of a type may not be (JLS 8.1.1.1, 8.4.2, 8.4.8.3, 8.4.8.4, 9.4.1).
use Rattle.std.specs.Prelude.{◌≡◌, ◌⊎◌, ℕ, Option, Some, None, slice_get, map}
use Rattle.std.specs.List.{Contains}
use Rattle.java_tree.specs.declared.tree.Mod.TheVariants as mods
use Rattle.rule_order.specs.declared.Breach.{Breach}
use Rattle.class_world.specs.declared.world.World.{World}
use Rattle.class_world.specs.declared.world.TypeInfo.{TypeInfo}
use Rattle.class_world.specs.declared.world.MethodInfo.{MethodInfo}
use Rattle.class_world.specs.declared.world.JavaType.{JavaType}
use Rattle.class_world.specs.Types.{IsReference, erased}
use Rattle.class_world.specs.Subtypes.{Fits}
use Rattle.class_world.specs.Access.{IsInterface}
use Rattle.class_world.specs.Signatures.{IsMethod, HaveOneSignatureIn}
use Rattle.class_world.specs.Inheritance.{DeclaresMethod, IsMemberMethod}
use Rattle.class_world.specs.Overriding.{Overriding}
use Rattle.class_world.specs.Counted.{IsOfClass}
use Rattle.seen_methods.specs.Seen.{HasResult}

-- by its modifier, or as a method of an interface (9.4)
abbrev pub IsAbstractMethod : World → ℕ → Type 0
IsAbstractMethod w m = (info : MethodInfo) × IsMethod w m info × (Contains info.mods mods.Abstract ⊎ IsInterface w info.owner)

-- a class without the modifier `abstract`
abbrev pub IsConcrete : World → ℕ → Type 0
IsConcrete w c = (info : TypeInfo) × (slice_get w.types c ≡ Some info) × (IsInterface w c → ⊥) × (Contains info.mods mods.Abstract → ⊥)

-- DR18: a concrete class has an abstract member that no member with a body overrides
abbrev pub LacksBody : World → ℕ → Type 0
LacksBody w c =
    IsConcrete w c × ((m : ℕ) × IsMemberMethod w c m × IsAbstractMethod w m × ((k : ℕ) → IsMemberMethod w c k → (IsAbstractMethod w k → ⊥) → Overriding w k m → ⊥))

-- one result may be put where the other is wanted (void for void, the same type, or a reference type that fits)
abbrev pub FitsResult : World → Option JavaType → Option JavaType → Type 0
FitsResult w None None = Unit {0}
FitsResult w (Some s) (Some t) = (s ≡ t) ⊎ (IsReference s × IsReference t × Fits w s t)
FitsResult w _ _ = ⊥

-- a member that the type does not itself declare
abbrev pub IsInherited : World → ℕ → ℕ → Type 0
IsInherited w c m = IsMemberMethod w c m × (DeclaresMethod w c m → ⊥)

-- a method that a class declares, and the type inherits, overrides both
abbrev pub AreOverridden : World → ℕ → ℕ → ℕ → Type 0
AreOverridden w c m k = (t : ℕ) × IsInherited w c t × IsOfClass w t × Overriding w t m × Overriding w t k

-- DR19: the type inherits two methods of one signature, neither result fits the other, and no method of a class that it inherits overrides both
abbrev pub HasUnlikeResults : World → ℕ → Type 0
HasUnlikeResults w c =
    (m : ℕ) × (k : ℕ) × IsInherited w c m × IsInherited w c k × HaveOneSignatureIn w c m k × (AreOverridden w c m k → ⊥)
    × (r : Option JavaType) × (q : Option JavaType) × HasResult w c m r × HasResult w c k q × (FitsResult w r q → ⊥) × (FitsResult w q r → ⊥)

-- two methods have one name and one list of erased parameter types, as they are declared (8.4.2)
abbrev pub HaveOneErasure : World → ℕ → ℕ → Type 0
HaveOneErasure w m k = (i : MethodInfo) × (j : MethodInfo) × IsMethod w m i × IsMethod w k j × (i.name ≡ j.name) × (map erased i.params ≡ map erased j.params)

-- DR20: two members have one erased signature, and not one signature
abbrev pub HasClash : World → ℕ → Type 0
HasClash w c = (m : ℕ) × (k : ℕ) × IsMemberMethod w c m × IsMemberMethod w c k × HaveOneErasure w m k × (HaveOneSignatureIn w c m k → ⊥)

-- the rule, by its number, that the type breaks
pub data Breaks (w : World) (c : ℕ) : ℕ → Type 0 where
  lacks_body : LacksBody w c → Breaks w c 18
  unlike_results : HasUnlikeResults w c → Breaks w c 19
  clash : HasClash w c → Breaks w c 20

-- at the type
abbrev pub InheritedBreaches : World → Breach → Type 0
InheritedBreaches w b = (c : ℕ) × (info : TypeInfo) × (slice_get w.types c ≡ Some info) × (info.node ≡ Some b.node) × Breaks w c b.rule
