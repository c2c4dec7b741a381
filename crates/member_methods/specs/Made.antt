-- The maps of the types, as far as they are made.
use Rattle.std.specs.Prelude.{◌≡◌, ℕ, ◌<◌, ◌↔◌, ◌⊎◌, List, Some, slice_get, length}
use Rattle.std.specs.List.{Contains}
use Rattle.class_world.specs.declared.world.World.{World}
use Rattle.class_world.specs.declared.world.MethodInfo.{MethodInfo}
use Rattle.class_world.specs.Signatures.{IsMethod, HaveOneName, HaveOneSignatureIn}
use Rattle.class_world.specs.Inheritance.{IsDirectlyAbove, DeclaresMethod, IsMemberMethod, IsPrivateMethod}
use Rattle.shared_maps.specs.declared.Map.{Map}
use Rattle.member_methods.specs.declared.tables.Tables.{Tables}
use Rattle.member_methods.specs.declared.own.Group.{Group}
use Rattle.member_methods.specs.declared.made.Made.{Made}
use Rattle.member_methods.specs.Tables.{IsGood, listed}
use Rattle.member_methods.specs.Methods.{IsFromInterface, IsInheritable}
use Rattle.member_methods.specs.Own.{IsOwnerLimit, IsInGroup, IsInFirst, AreSingle}

-- the method has this key's number
abbrev pub IsKeyed : World → List ℕ → ℕ → ℕ → Type 0
IsKeyed w keyed k m = ((info : MethodInfo) × IsMethod w m info) × (slice_get keyed m ≡ Some k)

-- a member method of c with this key
abbrev pub Has : World → List ℕ → ℕ → ℕ → ℕ → Type 0
Has w keyed c k m = IsKeyed w keyed k m × IsMemberMethod w c m

-- one that is not private
abbrev pub HandsDown : World → List ℕ → ℕ → ℕ → ℕ → Type 0
HandsDown w keyed c k m = Has w keyed c k m × (IsPrivateMethod w m → ⊥)

-- a method with this key that a type directly above c hands down
abbrev pub CanInherit : World → List ℕ → ℕ → ℕ → ℕ → Type 0
CanInherit w keyed c k m = IsKeyed w keyed k m × IsInheritable w c m

-- one that a direct superinterface of c hands down
abbrev pub CanInheritFromInterface : World → List ℕ → ℕ → ℕ → ℕ → Type 0
CanInheritFromInterface w keyed c k m = IsKeyed w keyed k m × IsFromInterface w c m

-- listed by the maps of some types
abbrev pub IsListedIn : Tables → List Map → List ℕ → ℕ → ℕ → Type 0
IsListedIn t maps types k m = (s : ℕ) × Contains types s × (map : Map) × (slice_get maps s ≡ Some map) × Contains (listed t map k) m

-- each of these types has a good map
abbrev pub HaveMaps : Tables → List Map → List ℕ → Type 0
HaveMaps t maps types = (s : ℕ) → Contains types s → (map : Map) × (slice_get maps s ≡ Some map) × IsGood t map

-- listed by a map
abbrev pub Lists : Tables → Map → ℕ → ℕ → Type 0
Lists t map k m = Contains (listed t map k) m

-- The methods of one group at its key in place of those of its key that they take out, and what there is at other keys.
abbrev pub IsWithGroup : World → ℕ → Group → (ℕ → ℕ → Type 0) → ℕ → ℕ → Type 0
IsWithGroup w c g before k m =
    ((k ≡ g.key) × (Contains g.methods m ⊎ (before k m × ((o : ℕ) → Contains g.methods o → HaveOneSignatureIn w c o m → ⊥)))) ⊎ ((k ≡ g.key → ⊥) × before k m)

-- The methods of the first n groups, and those of `above` that they do not take out.
abbrev pub IsWithFirst : World → ℕ → List Group → ℕ → (ℕ → ℕ → Type 0) → ℕ → ℕ → Type 0
IsWithFirst w c groups n above k m =
    IsInFirst groups n k m ⊎ (above k m × ((q o : ℕ) → IsInFirst groups n q o → HaveOneSignatureIn w c o m → ⊥))

-- the same of all groups
abbrev pub IsWithAll : World → ℕ → List Group → (ℕ → ℕ → Type 0) → ℕ → ℕ → Type 0
IsWithAll w c groups above k m =
    IsInGroup groups k m ⊎ (above k m × ((q o : ℕ) → IsInGroup groups q o → HaveOneSignatureIn w c o m → ⊥))

-- groups of methods of the type c and methods of types above it, by key: two of one name stand at one key, and so do two of one signature
pub record AreApart (w : World) (c keys : ℕ) (groups : List Group) (above : ℕ → ℕ → Type 0) : Type 0 where
  pub declared : (q m : ℕ) → IsInGroup groups q m → DeclaresMethod w c m
  pub single : AreSingle groups
  pub alike : (q m n : ℕ) → IsInGroup groups q m → above q n → HaveOneName w m n
  pub apart : (q k m n : ℕ) → IsInGroup groups q m → above k n → HaveOneSignatureIn w c m n → q ≡ k
  pub below : (i : ℕ) (g : Group) → slice_get groups i ≡ Some g → g.key < keys

-- the map at a place lists for each key what P says
pub record HasMap (t : Tables) (maps : List Map) (c : ℕ) (P : ℕ → ℕ → Type 0) : Type 0 where
  pub map : Map
  pub at : slice_get maps c ≡ Some map
  pub good : IsGood t map
  pub has : (k m : ℕ) → Contains (listed t map k) m ↔ P k m

-- the maps of c are made
pub record IsDone (w : World) (keyed : List ℕ) (made : Made) (c : ℕ) : Type 0 where
  pub members : HasMap made.tables made.members.items c (Has w keyed c)
  pub inheritable : HasMap made.tables made.inheritable.items c (CanInherit w keyed c)
  pub from_interfaces : HasMap made.tables made.from_interfaces.items c (CanInheritFromInterface w keyed c)
  pub handed : HasMap made.tables made.handed.items c (HandsDown w keyed c)

-- each type has its maps, and no map hands down what the type does not
pub record IsMaking (w : World) (keyed : List ℕ) (limit : ℕ) (made : Made) : Type 0 where
  pub members : length made.members.items ≡ limit
  pub inheritable : length made.inheritable.items ≡ limit
  pub from_interfaces : length made.from_interfaces.items ≡ limit
  pub handed : length made.handed.items ≡ limit
  pub keys : made.tables.maps.keys ≡ length keyed
  pub good : (c : ℕ) (map : Map) → slice_get made.handed.items c ≡ Some map → IsGood made.tables map
  pub only : (c : ℕ) (map : Map) (k m : ℕ) → slice_get made.handed.items c ≡ Some map → Contains (listed made.tables map k) m → HandsDown w keyed c k m

-- The types directly above c are done. (Object would be above itself if it were an interface.)
abbrev pub IsReady : World → List ℕ → Made → ℕ → Type 0
IsReady w keyed made c = (s : ℕ) → IsDirectlyAbove w c s → (s ≡ c → ⊥) → IsDone w keyed made s

-- all types are done
pub record AreMade (w : World) (keyed : List ℕ) (made : Made) : Type 0 where
  pub limit : IsOwnerLimit w (length made.members.items)
  pub inheritable : length made.inheritable.items ≡ length made.members.items
  pub from_interfaces : length made.from_interfaces.items ≡ length made.members.items
  pub each : (c : ℕ) → c < length made.members.items → IsDone w keyed made c
