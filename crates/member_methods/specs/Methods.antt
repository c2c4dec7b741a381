-- The member methods of a type by name and number of parameters.
use Rattle.std.specs.Prelude.{◌≡◌, ℕ, ◌↔◌, List, [], Option, Some, None, slice_get, length}
use Rattle.std.specs.List.{Contains}
use Rattle.std.specs.List.Sorted.{IsStrictlyIncreasing}
use Rattle.java_tree.specs.declared.tree.Name.{Name}
use Rattle.class_world.specs.declared.world.World.{World}
use Rattle.class_world.specs.declared.world.MethodInfo.{MethodInfo}
use Rattle.class_world.specs.Signatures.{IsMethod}
use Rattle.class_world.specs.Inheritance.{IsDirectlyAbove, IsMemberMethod, IsMethodNamed, IsPrivateMethod}
use Rattle.class_world.specs.Overriding.{IsSuperinterface}
use Rattle.shared_maps.specs.declared.Map.{Map}
use Rattle.member_methods.specs.declared.MethodLists.{MethodLists}
use Rattle.member_methods.specs.declared.tables.Tables.{Tables}
use Rattle.member_methods.specs.Keys.{found_in}
use Rattle.member_methods.specs.Tables.{listed}

-- the numbers are those of the member methods of c with this name and number of parameters, ascending
abbrev pub AreNamed : World → ℕ → Name → ℕ → List ℕ → Type 0
AreNamed w c n arity ms = ((m : ℕ) → Contains ms m ↔ IsMethodNamed w c n arity m) × IsStrictlyIncreasing ms

-- a method with this name and number of parameters
abbrev pub IsCalled : World → Name → ℕ → ℕ → Type 0
IsCalled w n arity m = (info : MethodInfo) × IsMethod w m info × (info.name ≡ n) × (length info.params ≡ arity)

-- The type c inherits m unless a declaration of c has its signature: m is a member of a type directly above c, and not private (JLS 8.4.8).
abbrev pub IsInheritable : World → ℕ → ℕ → Type 0
IsInheritable w c m = ((s : ℕ) × IsDirectlyAbove w c s × IsMemberMethod w s m) × (IsPrivateMethod w m → ⊥)

-- the numbers are those of these with this name and number of parameters, ascending
abbrev pub AreInheritable : World → ℕ → Name → ℕ → List ℕ → Type 0
AreInheritable w c n arity ms = ((m : ℕ) → Contains ms m ↔ (IsInheritable w c m × IsCalled w n arity m)) × IsStrictlyIncreasing ms

-- The type c inherits m from an interface unless a declaration of c has its signature: m is a member of a direct superinterface of c (JLS 8.1.5, 9.1.3), and not private
-- (JLS 8.4.8).
abbrev pub IsFromInterface : World → ℕ → ℕ → Type 0
IsFromInterface w c m = ((i : ℕ) × IsSuperinterface w c i × IsMemberMethod w i m) × (IsPrivateMethod w m → ⊥)

-- the numbers are those of these, ascending
abbrev pub AreFromInterfaces : World → ℕ → List ℕ → Type 0
AreFromInterfaces w c ms = ((m : ℕ) → Contains ms m ↔ IsFromInterface w c m) × IsStrictlyIncreasing ms

-- what is listed by a map, if there is one, for a key, if there is one
abbrev pub listed_by : Tables → Option Map → Option ℕ → List ℕ
listed_by t None key = []
listed_by t (Some map) None = []
listed_by t (Some map) (Some k) = listed t map k

-- what the maps have for a type, a name and a number of parameters
abbrev pub listed_in : MethodLists → List Map → ℕ → Name → ℕ → List ℕ
listed_in t maps c n arity = listed_by t.tables (slice_get maps c) (found_in t.keys (record { name = n.0; arity = arity }))

abbrev pub methods_in : MethodLists → ℕ → Name → ℕ → List ℕ
methods_in t c n arity = listed_in t t.members.items c n arity

abbrev pub inheritable_in : MethodLists → ℕ → Name → ℕ → List ℕ
inheritable_in t c n arity = listed_in t t.inheritable.items c n arity

-- one of the maps, that of the type c, lists m for some key
abbrev pub IsListedAt : MethodLists → List Map → ℕ → ℕ → Type 0
IsListedAt t maps c m = (map : Map) × (slice_get maps c ≡ Some map) × ((k : ℕ) × Contains (listed t.tables map k) m)

-- the numbers are those of all member methods of c
abbrev pub AreMembers : World → ℕ → List ℕ → Type 0
AreMembers w c ms = (m : ℕ) → Contains ms m ↔ IsMemberMethod w c m

-- The lists have the member methods of each type, by name and number of parameters, and all together; those that it inherits unless it declares their signatures; and those
-- of these that are from interfaces.
pub record HoldsMethods (w : World) (t : MethodLists) : Type 0 where
  pub named : (c : ℕ) (n : Name) (arity : ℕ) → AreNamed w c n arity (methods_in t c n arity)
  pub inheritable : (c : ℕ) (n : Name) (arity : ℕ) → AreInheritable w c n arity (inheritable_in t c n arity)
  pub members : (c m : ℕ) → IsListedAt t t.members.items c m ↔ IsMemberMethod w c m
  pub from_interfaces : (c m : ℕ) → IsListedAt t t.from_interfaces.items c m ↔ IsFromInterface w c m
