-- What the pieces say from which the table of the order is built.
use Rattle.std.specs.Prelude.{◌≡◌, ℕ, ◌<◌, ◌≤◌, ◌/◌, Bool, true, false, List, [], ◌∷◌, ◌++◌, Option, None, Some, slice_get, length, ◌↔◌, ◌⊎◌, IfSome}
use Rattle.class_world.specs.declared.world.World.{World}
use Rattle.class_world.specs.declared.world.TypeInfo.{TypeInfo}
use Rattle.class_world.specs.declared.world.Above.{Above}
use Rattle.class_world.specs.declared.world.JavaType.{JavaType}
use Rattle.class_world.specs.declared.world.JavaType.TheVariants as ty
use Rattle.class_world.specs.DirectSupers.{IsDirectSuper}
use Rattle.class_world.specs.Subtypes.{Subtype, Parameterizes}
use Rattle.class_world.specs.Sound.{IsSet, IsSuper, IsShortcut, IsRow}

abbrev pub IsListed : List JavaType → JavaType → Type 0
IsListed ts t = (k : ℕ) × (slice_get ts k ≡ Some t)

-- no two parameterizations of one class are listed
abbrev pub AreSingle : List JavaType → Type 0
AreSingle ts = (g : ℕ) (t u : JavaType) → Parameterizes g t → Parameterizes g u → IsListed ts t → IsListed ts u → t ≡ u

-- t is listed; or it has no arguments, and a type of its class is listed
abbrev pub IsCovered : List JavaType → JavaType → Type 0
IsCovered ts t = (g : ℕ) × (xs : List JavaType) × (ys : List JavaType) × (t ≡ ty.Class g xs) × IsListed ts (ty.Class g ys) × ((xs ≡ []) ⊎ (xs ≡ ys))

-- the type is at its class's place in the list
abbrev pub IsPlaced : List JavaType → List ℕ → ℕ → JavaType → Type 0
IsPlaced ts places g t = (p : ℕ) × (xs : List JavaType) × (slice_get places g ≡ Some p) × (slice_get ts p ≡ Some t) × (t ≡ ty.Class g xs)

-- A list of class types that has of each class at most two, first the one without arguments, and the places by class where the last of each is. Of a class
-- of which none is listed the place may be any number.
pub record HasPlaces (ts : List JavaType) (places : List ℕ) : Type 0 where
  pub last : (k g : ℕ) (xs : List JavaType) → slice_get ts k ≡ Some (ty.Class g xs) → (ys : List JavaType) × IsPlaced ts places g (ty.Class g ys) × ((xs ≡ []) ⊎ (xs ≡ ys))
  pub twice : (j k g : ℕ) (xs ys : List JavaType) → j < k → slice_get ts j ≡ Some (ty.Class g xs) → slice_get ts k ≡ Some (ty.Class g ys) → (xs ≡ []) × (ys ≡ [] → ⊥)

-- the list covers t, or t comes last in it
abbrev pub Takes : List JavaType → List JavaType → JavaType → Type 0
Takes old new t = ((new ≡ old) × IsCovered old t) ⊎ (new ≡ old ++ t ∷ [])

-- t parameterizes a class of which another parameterization is listed
abbrev pub ClashOne : List JavaType → JavaType → Type 0
ClashOne old t = (g : ℕ) × (u : JavaType) × Parameterizes g t × Parameterizes g u × IsListed old u × (u ≡ t → ⊥)

-- the bits are those that were and one more
abbrev pub Sets : List ℕ → List ℕ → ℕ → Type 0
Sets old new g = (h : ℕ) → IsSet new h ↔ (IsSet old h ⊎ (h ≡ g))

-- the bits are those of both
abbrev pub SetsAll : List ℕ → List ℕ → List ℕ → Type 0
SetsAll old new more = (h : ℕ) → IsSet new h ↔ (IsSet old h ⊎ IsSet more h)

-- the bits are those that were and those of both others
abbrev pub SetsBoth : List ℕ → List ℕ → List ℕ → List ℕ → Type 0
SetsBoth old new more mask = (h : ℕ) → IsSet new h ↔ (IsSet old h ⊎ (IsSet more h × IsSet mask h))

-- the number lies within the words
abbrev pub AreWithin : List ℕ → ℕ → Type 0
AreWithin words n = (h : ℕ) → IsSet words h → h / 64 < n

-- the class has its row among the rows
abbrev pub HasRow : World → List Above → ℕ → Type 0
HasRow w rows g = (info : TypeInfo) → slice_get w.types g ≡ Some info → (a : Above) × (slice_get rows g ≡ Some a) × IsRow w g info.params a

-- so has the class of each of these types
abbrev pub HaveRows : World → List Above → List JavaType → Type 0
HaveRows w rows ts = (k : ℕ) (d : JavaType) → slice_get ts k ≡ Some d → (g : ℕ) (args : List JavaType) → d ≡ ty.Class g args → HasRow w rows g

-- what the rows have of shortcuts are shortcuts
abbrev pub HaveShortcuts : World → List Above → Type 0
HaveShortcuts w rows = (c : ℕ) (info : TypeInfo) (a : Above) → slice_get w.types c ≡ Some info → slice_get rows c ≡ Some a → IfSome a.shortcut (λ t. IsShortcut w c info.params t)

-- Over whatever variables s is: t is over them too, not raw where s is not, and above s.
abbrev pub LeadsUp : World → JavaType → JavaType → Type 0
LeadsUp w s t = (n : ℕ) → IsSuper w n s → IsSuper w n t × Subtype w s t

-- the fact holds of one of the first i types
abbrev pub AmongFirst : (JavaType → Type 0) → List JavaType → ℕ → Type 0
AmongFirst P ts i = (k : ℕ) × (d : JavaType) × (k < i) × (slice_get ts k ≡ Some d) × P d

abbrev pub supers_in : Option TypeInfo → List JavaType
supers_in None = []
supers_in (Some info) = info.supers

-- the supertypes that a class declares, in order
abbrev pub declared_supers : World → ℕ → List JavaType
declared_supers w c = supers_in (slice_get w.types c)

-- the classes of the first i types are finished
abbrev pub FinishedBefore : List Bool → List JavaType → ℕ → Type 0
FinishedBefore finished ds i = (k g : ℕ) (args : List JavaType) → k < i → slice_get ds k ≡ Some (ty.Class g args) → slice_get finished g ≡ Some true

-- a class is above itself: the class of one of its declared supertypes is below it or it
abbrev pub IsAboveItself : World → ℕ → Type 0
IsAboveItself w c = (g : ℕ) × (args : List JavaType) × IsDirectSuper w c (ty.Class g args) × Subtype w (ty.Class g []) (ty.Class c [])

-- The search for a sequence: the classes seen that are not finished wait on the stack, each of which leads to those above it there; the finished ones are listed,
-- each once, those of their declared supertypes first.
pub record IsSearch (w : World) (seen finished : List Bool) (stack listed : List ℕ) : Type 0 where
  pub seen_size : length seen ≡ length w.types
  pub finished_size : length finished ≡ length w.types
  pub stacked : (i c : ℕ) → slice_get stack i ≡ Some c → c < length w.types
  pub waiting : (c : ℕ) → slice_get seen c ≡ Some true → slice_get finished c ≡ Some false → (i : ℕ) × (slice_get stack i ≡ Some c)
  pub chain : (i j a b : ℕ) → i ≤ j → slice_get stack i ≡ Some a → slice_get stack j ≡ Some b → Subtype w (ty.Class a []) (ty.Class b [])
  pub begun : (c : ℕ) → slice_get finished c ≡ Some true → slice_get seen c ≡ Some true
  pub noticed : (i c : ℕ) → slice_get stack i ≡ Some c → slice_get seen c ≡ Some true
  pub pending : (i c : ℕ) → slice_get stack i ≡ Some c → slice_get finished c ≡ Some false
  pub apart : (i j c : ℕ) → slice_get stack i ≡ Some c → slice_get stack j ≡ Some c → i ≡ j
  pub known : (i c : ℕ) → slice_get listed i ≡ Some c → c < length w.types
  pub over : (i c : ℕ) → slice_get listed i ≡ Some c → slice_get finished c ≡ Some true
  pub once : (i j c : ℕ) → slice_get listed i ≡ Some c → slice_get listed j ≡ Some c → i ≡ j
  pub done : (c : ℕ) → slice_get finished c ≡ Some true → (i : ℕ) × (slice_get listed i ≡ Some c)
  pub before : (i c g : ℕ) (args : List JavaType) → slice_get listed i ≡ Some c → IsDirectSuper w c (ty.Class g args) → (j : ℕ) × (j < i) × (slice_get listed j ≡ Some g)
