-- What the tables of two programs have to agree in, number by number.
use Rattle.std.specs.Prelude.{◌≡◌, ◌↔◌, ℕ, ◌<◌, ◌≤◌, Bool, IsTrue, if◌then◌else◌, List, [], map, length, Option, Some, None, slice_get}
use Rattle.std.specs.Option.{option_map}
use Rattle.class_world.specs.declared.world.World.{World}
use Rattle.class_world.specs.declared.world.FieldInfo.{FieldInfo}
use Rattle.type_kinds.specs.Members.{is_static_field}
use Rattle.core_meaning.specs.declared.values.Value.{Value}
use Rattle.core_meaning.specs.declared.values.Progress.{Progress}
use Rattle.core_meaning.specs.declared.values.Held.{Held}
use Rattle.core_meaning.specs.declared.values.Thing.{Thing}
use Rattle.core_meaning.specs.declared.values.Thing.TheVariants.{Object, Array}
use Rattle.core_meaning.specs.Code.{Code, superclass, is_instance_field, is_constant, new_object}
use Rattle.core_meaning.specs.Classes.{full_name}
use Rattle.core_meaning.specs.Runs.{statics_from, first_static, first_progress, main_of, most_initialised}
use Rattle.running_code.specs.declared.running.Running.{Running}
use Rattle.running_code.specs.Running.{IsCode}
use Rattle.program_maps.specs.declared.numbers.Numbers.{Numbers}
use Rattle.program_maps.specs.declared.numbers.Map.{Map}
use Rattle.alike_tables.specs.declared.tables.Counts.{Counts}
use Rattle.program_maps.specs.Ways.{Ways, IsOneToOne, ways}
use Rattle.program_maps.specs.Pairs.{Pair}
use Rattle.program_maps.specs.Correspond.{KeepsBuiltIn, TablesAlike, moved_walk, method_owner, field_owner}

-- what is said of two running programs, for every code that they are told
abbrev pub Both : (old new : Running) → (Code → Code → Type 0) → Type 0
Both g h P = (c c' : Code) → IsCode g c → IsCode h c' → P c c'

-- an answer that is told both ways
abbrev pub TellsWhether : (old new : Running) → Bool → (Code → Code → Type 0) → Type 0
TellsWhether g h b P = Both g h (λ c c'. IsTrue b ↔ P c c')

-- for each number below another one
abbrev pub AllBelow : ℕ → (ℕ → Type 0) → Type 0
AllBelow n P = (k : ℕ) → k < n → P k

-- ---- one number

-- the fields of an object; and one with the number that it has in the other program
abbrev pub held_of : Thing → List Held
held_of (Object k hs m) = hs
held_of (Array t xs) = []

abbrev pub moved_held : (ℕ → ℕ) → Held → Held
moved_held f h = record { field = f h.field; value = h.value }

-- a new object has the same fields, in the same order and with the same values
abbrev pub IsObjectKept : (ℕ → ℕ) → (c c' : Code) → (k k' : ℕ) → Type 0
IsObjectKept f c c' k k' = held_of (new_object c' k') ≡ map (moved_held f) (held_of (new_object c k))

-- how far the initialisation of a type is before the run
abbrev pub progress_of : World → ℕ → Option Progress
progress_of w k = slice_get (map first_progress w.types) k

-- a type of the old program, and the one that it goes to
pub record IsTypeKept (w : Ways) (c c' : Code) (k k' : ℕ) : Type 0 where
  pub superclass : superclass c'.world k' ≡ option_map w.types (superclass c.world k)
  pub object : IsObjectKept w.fields c c' k k'
  pub name : full_name c' k' ≡ full_name c k
  pub progress : progress_of c'.world k' ≡ progress_of c.world k
  pub main : main_of c' k' ≡ option_map w.methods (main_of c k)

-- what a static field has before the run; none where it is no static one
abbrev pub static_of : World → ℕ → FieldInfo → Option Value
static_of w f i = if is_static_field w i then Some (first_static f i.ty) else None

abbrev pub static_at : World → ℕ → Option (Option Value)
static_at w f = slice_get (statics_from w 0 w.fields) f

abbrev pub IsMethodKept : Ways → (c c' : Code) → (m m' : ℕ) → Type 0
IsMethodKept w c c' m m' = method_owner c' m' ≡ option_map w.types (method_owner c m)

pub record IsFieldKept (w : Ways) (c c' : Code) (f f' : ℕ) : Type 0 where
  pub owner : field_owner c' f' ≡ option_map w.types (field_owner c f)
  pub on_instance : is_instance_field c'.world f' ≡ is_instance_field c.world f
  pub constant : is_constant c' f' ≡ is_constant c f
  pub static : static_at c'.world f' ≡ static_at c.world f

-- ---- all numbers

-- the map has a place for each of n numbers, and leads behind n' ones what it has no place for
abbrev pub HasPlaces : Numbers → (n n' : ℕ) → Type 0
HasPlaces x n n' = (length x.to ≡ n) × (n' ≤ length x.back)

pub record IsWhole (m : Map) (c c' : Code) : Type 0 where
  pub types : HasPlaces m.types (length c.world.types) (length c'.world.types)
  pub methods : HasPlaces m.methods (length c.world.methods) (length c'.world.methods)
  pub fields : HasPlaces m.fields (length c.world.fields) (length c'.world.fields)

abbrev pub AreTypesKept : Map → Ways → (c c' : Code) → Type 0
AreTypesKept m w c c' = AllBelow (length m.types.to) (λ k. IsTypeKept w c c' k (w.types k))

abbrev pub AreMethodsKept : Map → Ways → (c c' : Code) → Type 0
AreMethodsKept m w c c' = AllBelow (length m.methods.to) (λ k. IsMethodKept w c c' k (w.methods k))

abbrev pub AreFieldsKept : Map → Ways → (c c' : Code) → Type 0
AreFieldsKept m w c c' = AllBelow (length m.fields.to) (λ k. IsFieldKept w c c' k (w.fields k))

abbrev pub IsWalkKept : Ways → (c c' : Code) → Type 0
IsWalkKept w c c' = c'.world.walk ≡ option_map (moved_walk w) c.world.walk

abbrev pub IsCountKept : (c c' : Code) → Type 0
IsCountKept c c' = most_initialised c'.world ≡ most_initialised c.world

-- ---- what is built in

-- how many methods and constructors are built in
abbrev pub built_in_members : ℕ
built_in_members = 59

-- numbers below this one go to themselves
abbrev pub StaysBelow : ℕ → (ℕ → ℕ) → Type 0
StaysBelow n f = AllBelow n (λ k. f k ≡ k)

-- others go to others
abbrev pub StaysFrom : ℕ → (ℕ → ℕ) → Type 0
StaysFrom n f = (k : ℕ) → n ≤ k → n ≤ f k

pub record IsBuiltInKept (w : Ways) : Type 0 where
  pub types : StaysBelow 19 w.types
  pub out : StaysBelow 1 w.fields
  pub members : StaysBelow built_in_members w.methods
  pub others : StaysFrom built_in_members w.methods

-- ---- both programs

-- the lists of the map are as long as these numbers
pub record AreCounts (m : Map) (n : Counts) : Type 0 where
  pub types : n.types ≡ length m.types.to
  pub methods : n.methods ≡ length m.methods.to
  pub fields : n.fields ≡ length m.fields.to

-- the map fits both programs
pub record IsMapFit (m : Map) (w : Ways) (c c' : Code) : Type 0 where
  pub whole : IsWhole m c c'
  pub built_in : IsBuiltInKept w
  pub one_type : IsOneToOne w.types
  pub one_field : IsOneToOne w.fields

-- what is decided but for the types
pub record IsRestKept (m : Map) (w : Ways) (c c' : Code) : Type 0 where
  pub fit : IsMapFit m w c c'
  pub walk : IsWalkKept w c c'
  pub depth : IsCountKept c c'
  pub methods : AreMethodsKept m w c c'
  pub fields : AreFieldsKept m w c c'

pub record AreAlike (p : Pair) (c c' : Code) : Type 0 where
  pub tables : TablesAlike p c c'
  pub built_in : KeepsBuiltIn p.ways
  pub types : IsOneToOne p.ways.types
  pub fields : IsOneToOne p.ways.fields

-- what follows for all numbers
abbrev pub AreAlikeTold : (old new : Running) → Map → Type 0
AreAlikeTold g h m = (p : Pair) → p.ways ≡ ways m → Both g h (λ c c'. AreAlike p c c')
