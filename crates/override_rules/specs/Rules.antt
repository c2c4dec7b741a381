-- DR13 to DR17: what a method that overrides or hides another may not do (JLS 8.4.3.3, 8.4.5, 8.4.8.1 to 8.4.8.3).
use Rattle.std.specs.Prelude.{◌≡◌, ◌<◌, ◌⊎◌, ℕ, Bool, true, false, ◌||◌, if◌then◌else◌, List, [], Option, Some, None, slice_get}
use Rattle.std.specs.List.{Contains, list_any}
use Rattle.java_tree.specs.declared.tree.Mod.{Mod}
use Rattle.java_tree.specs.declared.tree.Mod.TheVariants as mods
use Rattle.rule_order.specs.declared.Breach.{Breach}
use Rattle.class_world.specs.declared.world.World.{World}
use Rattle.class_world.specs.declared.world.TypeInfo.{TypeInfo}
use Rattle.class_world.specs.declared.world.MethodInfo.{MethodInfo}
use Rattle.class_world.specs.declared.world.JavaType.{JavaType}
use Rattle.class_world.specs.declared.world.JavaType.TheVariants as ty
use Rattle.class_world.specs.Types.{IsReference}
use Rattle.class_world.specs.Subtypes.{Subtype}
use Rattle.class_world.specs.Signatures.{IsMethod, AgreeBelow}
use Rattle.class_world.specs.Inheritance.{DeclaresMethod}
use Rattle.class_world.specs.Overriding.{Replaces, MeetIn}
use Rattle.seen_methods.specs.Seen.{HasResult}

-- ---- one method over another, as the type c sees both

-- A result that may stand in the place of another: void for void, the same primitive, the same type or a subtype (8.4.5). That int is below long says nothing here.
abbrev pub Suits : World → Option JavaType → Option JavaType → Type 0
Suits w None None = Unit {0}
Suits w (Some s) (Some t) = (s ≡ t) ⊎ (IsReference s × Subtype w s t)
Suits w _ _ = ⊥

abbrev pub BreaksResult : World → ℕ → ℕ → ℕ → Type 0
BreaksResult w c m k = (r : Option JavaType) × (q : Option JavaType) × HasResult w c m r × HasResult w c k q × (Suits w r q → ⊥)

abbrev pub is_public : Mod → Bool
is_public mods.Public = true
is_public _ = false

abbrev pub is_protected : Mod → Bool
is_protected mods.Protected = true
is_protected _ = false

abbrev pub is_private : Mod → Bool
is_private mods.Private = true
is_private _ = false

-- how far a member is accessible: private 0, by package 1, protected 2, public 3, as members of interfaces are
abbrev pub access : (interface : Bool) → List Mod → ℕ
access interface ms = if interface || list_any is_public ms then 3 else if list_any is_protected ms then 2 else if list_any is_private ms then 0 else 1

-- m is accessible less far than k (8.4.8.3)
abbrev pub IsWeaker : World → ℕ → ℕ → Type 0
IsWeaker w m k =
    (i : MethodInfo) × (j : MethodInfo) × IsMethod w m i × IsMethod w k j × (a : TypeInfo) × (b : TypeInfo) × (slice_get w.types i.owner ≡ Some a) × (slice_get w.types j.owner ≡ Some b)
    × (access a.interface i.mods < access b.interface j.mods)

-- RuntimeException and Error have the numbers 7 and 6; they and what is below them is unchecked (11.2)
abbrev pub IsUncheckedException : World → JavaType → Type 0
IsUncheckedException w t = Subtype w t (ty.Class 7 []) ⊎ Subtype w t (ty.Class 6 [])

-- m's throws clause names a checked class that is not below one of k's (8.4.8.3)
abbrev pub ThrowsMore : World → ℕ → ℕ → Type 0
ThrowsMore w m k =
    (i : MethodInfo) × (j : MethodInfo) × IsMethod w m i × IsMethod w k j
    × (e : JavaType) × Contains i.throws e × (IsUncheckedException w e → ⊥) × ((f : JavaType) → Contains j.throws f → Subtype w e f → ⊥)

abbrev pub HasMod : World → ℕ → Mod → Type 0
HasMod w m modifier = (info : MethodInfo) × IsMethod w m info × Contains info.mods modifier

-- both are static, or none is
abbrev pub AreOfOneKind : World → ℕ → ℕ → Type 0
AreOfOneKind w m k = (HasMod w m mods.Static × HasMod w k mods.Static) ⊎ ((HasMod w m mods.Static → ⊥) × (HasMod w k mods.Static → ⊥))

-- the rule, by its number, that m breaks over k
pub data Breaks (w : World) (c m k : ℕ) : ℕ → Type 0 where
  result : AreOfOneKind w m k → BreaksResult w c m k → Breaks w c m k 13
  access_of : AreOfOneKind w m k → IsWeaker w m k → Breaks w c m k 14
  throws : AreOfOneKind w m k → ThrowsMore w m k → Breaks w c m k 15
  final : AreOfOneKind w m k → HasMod w k mods.Final → Breaks w c m k 16
  static : (AreOfOneKind w m k → ⊥) → Breaks w c m k 17

-- ---- which methods stand over each other, and where

-- m takes the place of k, or of a third that takes the place of k
pub data TakesPlace (w : World) : ℕ → ℕ → Type 0 where
  at_once : {c m k : ℕ} → Replaces w c m k → TakesPlace w m k
  further : {c m t k : ℕ} → Replaces w c m t → TakesPlace w t k → TakesPlace w m k

-- A rule broken where a method is declared stands at the method, one broken by two methods that a class has from both sides at the class. Of the latter an instance
-- method overrides the interface's only where both have one signature in each type below those that declare them; that a static one meets it counts in any case.
pub data OverrideBreaches (w : World) (b : Breach) : Type 0 where
  declared : {c m k : ℕ} {info : MethodInfo} → DeclaresMethod w c m → TakesPlace w m k → Breaks w c m k b.rule → slice_get w.methods m ≡ Some info → info.node ≡ Some b.node
      → OverrideBreaches w b
  inherited : {c m k : ℕ} {info : TypeInfo} → MeetIn w c m k → AgreeBelow w m k ⊎ (AreOfOneKind w m k → ⊥) → Breaks w c m k b.rule → slice_get w.types c ≡ Some info
      → info.node ≡ Some b.node → OverrideBreaches w b
