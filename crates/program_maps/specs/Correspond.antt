-- What two codes have to agree in so that they run alike.
use Rattle.std.specs.Prelude.{◌≡◌, ℕ, ◌<◌, ◌⊎◌, false, List, map, Option, Some, None, slice_get}
use Rattle.std.specs.Option.{option_map}
use Rattle.class_world.specs.declared.world.JavaType.{JavaType}
use Rattle.class_world.specs.declared.world.MethodInfo.{MethodInfo}
use Rattle.class_world.specs.declared.world.FieldInfo.{FieldInfo}
use Rattle.class_world.specs.declared.world.Walk.{Walk}
use Rattle.class_world.specs.Types.{erased}
use Rattle.type_kinds.specs.Members.{field_at}
use Rattle.core_meaning.specs.declared.values.Thing.{Thing}
use Rattle.core_meaning.specs.declared.values.Thing.TheVariants.{Object, Array}
use Rattle.core_meaning.specs.State.{held}
use Rattle.core_meaning.specs.BuiltIns.{built_in, to_string, hash_code, get_message, out_field}
use Rattle.core_meaning.specs.Code.{Code, IsTold, body_of, class_at, class_fields, superclass, is_instance_field, is_constant, new_object}
use Rattle.core_meaning.specs.Classes.{full_name}
use Rattle.core_meaning.specs.Runs.{statics_from, first_progress, all_fields, main_of, most_initialised}
use Rattle.program_maps.specs.Ways.{Ways, IsOneToOne, moved}
use Rattle.program_maps.specs.Pairs.{Pair, CallAlike}
use Rattle.program_maps.specs.Trees.{OptBodyAlike, FieldsAlike}

-- The new program finds what the old one does, through the map. Where not all runs count, nothing is said of what the old one does not find.
abbrev pub LedTo : {A B : Type 0} → Pair → (A → B) → Option A → Option B → Type 0
LedTo p f o o' = (o' ≡ option_map f o) ⊎ ((p.strict ≡ false) × (o ≡ None))

-- how many types, methods and fields are built in
abbrev pub built_in_types : ℕ
built_in_types = 19

-- what is built in stays
pub record KeepsBuiltIn (φ : Ways) : Type 0 where
  pub types : (k : ℕ) → k < built_in_types → φ.types k ≡ k
  pub out : φ.fields out_field ≡ out_field
  pub methods : (m : ℕ) → built_in (φ.methods m) ≡ built_in m
  pub to_string : φ.methods to_string ≡ to_string
  pub hash_code : φ.methods hash_code ≡ hash_code
  pub get_message : φ.methods get_message ≡ get_message

abbrev pub moved_walk : Ways → Walk → Walk
moved_walk φ w = record { iterable = φ.types w.iterable; iterator = φ.methods w.iterator; has_next = φ.methods w.has_next; next = φ.methods w.next }

-- an object or array of the new program: of the class or type that the map has, with the same values
abbrev pub ThingAlike : Ways → Thing → Thing → Type 0
ThingAlike φ (Object k hs m) (Object k' hs' m') = (k' ≡ φ.types k) × (m' ≡ m) × ((f : ℕ) → held (φ.fields f) hs' ≡ held f hs)
ThingAlike φ (Array t xs) (Array t' xs') = (erased t ≡ t) × (t' ≡ moved φ.types t) × (xs' ≡ xs)
ThingAlike φ _ _ = ⊥

abbrev pub method_owner : Code → ℕ → Option ℕ
method_owner c m = option_map (λ (i : MethodInfo). i.owner) (slice_get c.world.methods m)

abbrev pub field_owner : Code → ℕ → Option ℕ
field_owner c f = option_map (λ (i : FieldInfo). i.owner) (field_at c.world f)

-- what the methods and constructors do
abbrev pub BodiesAlike : Pair → (c c' : Code) → Type 0
BodiesAlike p c c' =
    (m k : ℕ) → method_owner c m ≡ Some k → OptBodyAlike p (body_of c k m) (body_of c' (p.ways.types k) (p.ways.methods m))

-- what types, methods and fields are
pub record TablesAlike (p : Pair) (c c' : Code) : Type 0 where
  pub method_owner : (m : ℕ) → method_owner c' (p.ways.methods m) ≡ option_map p.ways.types (method_owner c m)
  pub field_owner : (f : ℕ) → field_owner c' (p.ways.fields f) ≡ option_map p.ways.types (field_owner c f)
  pub superclass : (k : ℕ) → superclass c'.world (p.ways.types k) ≡ option_map p.ways.types (superclass c.world k)
  pub on_instance : (f : ℕ) → is_instance_field c'.world (p.ways.fields f) ≡ is_instance_field c.world f
  pub constant : (f : ℕ) → is_constant c' (p.ways.fields f) ≡ is_constant c f
  pub objects : (k : ℕ) → ThingAlike p.ways (new_object c k) (new_object c' (p.ways.types k))
  pub names : (k : ℕ) → full_name c' (p.ways.types k) ≡ full_name c k
  pub walk : c'.world.walk ≡ option_map (moved_walk p.ways) c.world.walk
  pub statics : (f : ℕ) → slice_get (statics_from c'.world 0 c'.world.fields) (p.ways.fields f) ≡ slice_get (statics_from c.world 0 c.world.fields) f
  pub progress : (k : ℕ) → slice_get (map first_progress c'.world.types) (p.ways.types k) ≡ slice_get (map first_progress c.world.types) k
  pub mains : (k : ℕ) → main_of c' (p.ways.types k) ≡ option_map p.ways.methods (main_of c k)
  -- a run's depth is the number of its steps and of the types that can be initialised
  pub initialised : most_initialised c'.world ≡ most_initialised c.world

-- a call finds the same method on objects of every class
abbrev pub CallsFound : Pair → (c c' : Code) → Type 0
CallsFound p c c' = (m m' : ℕ) → CallAlike p m m' → (k : ℕ) → LedTo p p.ways.methods (c.found m k) (c'.found m' (p.ways.types k))

-- erased types stand to each other as before
abbrev pub OrderKept : Pair → (c c' : Code) → Type 0
OrderKept p c c' = (s t : JavaType) → erased s ≡ s → erased t ≡ t → c'.sub (moved p.ways.types s) (moved p.ways.types t) ≡ c.sub s t

pub record Correspond (p : Pair) (c c' : Code) : Type 0 where
  pub world : p.world ≡ c'.world
  pub told : IsTold c'
  pub types : IsOneToOne p.ways.types
  pub fields : IsOneToOne p.ways.fields
  pub built_in : KeepsBuiltIn p.ways
  pub tables : TablesAlike p c c'
  pub order : OrderKept p c c'
  pub calls : CallsFound p c c'
  pub bodies : BodiesAlike p c c'
  pub class_fields : (k : ℕ) → FieldsAlike p (class_fields (class_at c k)) (class_fields (class_at c' (p.ways.types k)))
  pub all_fields : FieldsAlike p (all_fields c) (all_fields c')
