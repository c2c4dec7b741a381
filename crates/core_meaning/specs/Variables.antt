-- Variables: how they are read and take values (JLS 15.11 to 15.13, 15.26), and casts, which ask what an object is (5.5, 15.16, 15.20.2).
use Rattle.std.specs.Prelude.{ℕ, ℤ, pos, negsuc, Bool, true, false, nat_lt, List, Option, Some, None, if◌then◌else◌}
use Rattle.java_tree.specs.declared.tree.Primitive.{Primitive}
use Rattle.class_world.specs.declared.world.FieldInfo.{FieldInfo}
use Rattle.class_world.specs.declared.world.JavaType.{JavaType}
use Rattle.class_world.specs.Types.{erased}
use Rattle.type_kinds.specs.Kinds.{primitive}
use Rattle.type_kinds.specs.Members.{field_at}
use Rattle.core_meaning.specs.declared.values.Value.{Value}
use Rattle.core_meaning.specs.declared.values.Value.TheVariants as v
use Rattle.core_meaning.specs.declared.values.Variable.{Variable}
use Rattle.core_meaning.specs.declared.values.Variable.TheVariants as x
use Rattle.core_meaning.specs.declared.values.State.{State}
use Rattle.core_meaning.specs.State.{in_slot, in_static, field_of, element_of, item_count, item_of, with_local, with_static, with_field, with_item}
use Rattle.core_meaning.specs.Numbers.{as_primitive}
use Rattle.core_meaning.specs.Texts.{number_units}
use Rattle.core_meaning.specs.BuiltIns.{class_cast_exception, array_store_exception, array_index_exception}
use Rattle.core_meaning.specs.Outcome.{Outcome, Gives, and_then, throws_plain, throws_saying, misfit, with_some, with_reference, with_int, choose}
use Rattle.core_meaning.specs.Code.{Code, is_constant}
use Rattle.core_meaning.specs.Classes.{type_of}

-- Where trees run: the program; the type whose member runs; what a call of a method or constructor of a file does, on an object (null where it is static) with arguments;
-- what the initialisation of a type does; and the turns that a loop may make.
pub record Place : Type 0 where
  pub code : Code
  pub class : ℕ
  pub call : (method : ℕ) → (this : Value) → List Value → State → Outcome Value
  pub initialise : (type : ℕ) → State → Outcome (Unit {0})
  pub turns : ℕ

-- ---- casts

-- a number as one of a primitive type; a reference as it is
abbrev pub fitted_by : Option Primitive → Value → Option Value
fitted_by None a = Some a
fitted_by (Some q) a = as_primitive q a

-- The widening of a value to a type, and the narrowing of what an assignment takes back.
abbrev pub fitted : JavaType → Value → State → Outcome Value
fitted t a s = with_some (fitted_by (primitive t) a) s (λ b. Gives b s)

-- whether what a reference is at run time is below a type, by erasure
abbrev pub is_below : Code → (is : JavaType) → (type : JavaType) → Bool
is_below c u t = c.sub u (erased t)

-- a reference that is below a type, or what is done where it is not; null is below each
abbrev pub cast_or : Place → JavaType → Value → State → (State → Outcome Value) → Outcome Value
cast_or p t v.Null s otherwise = Gives v.Null s
cast_or p t a s otherwise = with_some (type_of a s) s (λ u. choose (is_below p.code u t) (λ s. Gives a s) otherwise s)

-- A cast that is not written holds in a checked program without unchecked operations.
abbrev pub implied_cast : Place → JavaType → Value → State → Outcome Value
implied_cast p t a s = cast_or p t a s misfit

abbrev pub cast_by : Option Primitive → Place → JavaType → Value → State → Outcome Value
cast_by None p t a s = cast_or p t a s (throws_plain class_cast_exception)
cast_by (Some q) p t a s = with_some (as_primitive q a) s (λ b. Gives b s)

-- a written cast, between primitives or between references
abbrev pub cast : Place → JavaType → Value → State → Outcome Value
cast p t a s = cast_by (primitive t) p t a s

-- null is an instance of nothing
abbrev pub instance_of : Place → JavaType → Value → State → Outcome Value
instance_of p t v.Null s = Gives (v.Truth false) s
instance_of p t a s = with_some (type_of a s) s (λ u. Gives (v.Truth (is_below p.code u t)) s)

-- ---- items of arrays

-- the place that an index means among n items
abbrev pub index_in : ℤ → ℕ → Option ℕ
index_in (pos k) n = if nat_lt k n then Some k else None
index_in (negsuc k) n = None

abbrev pub at_place : {B : Type 0} → Option ℕ → ℤ → State → (ℕ → Outcome B) → Outcome B
at_place None z s f = throws_saying array_index_exception (number_units z) s
at_place (Some k) z s f = f k

-- the array and the place of an item: null test, then bounds test (15.13.1)
abbrev pub at_item : {B : Type 0} → (of at : Value) → State → (ℕ → ℕ → Outcome B) → Outcome B
at_item a i s f = with_reference a s (λ r. with_some (item_count r s) s (λ n. with_int i s (λ z. at_place (index_in z n) z s (f r))))

abbrev pub may_hold : Code → JavaType → Value → State → (State → Outcome Value) → Outcome Value
may_hold c t v.Null s go = go s
may_hold c t a s go = with_some (type_of a s) s (λ u. choose (is_below c u t) go (throws_plain array_store_exception) s)

-- the store test of an array of references (10.10)
abbrev pub storable_by : Option Primitive → Code → JavaType → Value → State → (State → Outcome Value) → Outcome Value
storable_by None c t a s go = may_hold c t a s go
storable_by (Some q) c t a s go = go s

abbrev pub storable : Code → JavaType → Value → State → (State → Outcome Value) → Outcome Value
storable c t a s go = storable_by (primitive t) c t a s go

-- ---- variables

abbrev pub ready_by : Bool → Place → ℕ → State → Outcome (Unit {0})
ready_by true p f s = Gives tt s
ready_by false p f s = with_some (field_at p.code.world f) s (λ (i : FieldInfo). p.initialise i.owner s)

-- Before a static field is used, the type that declares it is initialised, unless it is a constant field (12.4.1).
abbrev pub ready : Place → ℕ → State → Outcome (Unit {0})
ready p f s = ready_by (is_constant p.code f) p f s

-- what a variable holds
abbrev pub read : Place → Variable → State → Outcome Value
read p (x.Local k) s = with_some (in_slot k s.frame) s (λ a. Gives a s)
read p (x.Field of f) s = with_reference of s (λ r. with_some (field_of r f s) s (λ a. Gives a s))
read p (x.Static f) s = and_then (ready p f s) (λ u s. with_some (in_static f s) s (λ a. Gives a s))
read p (x.Item of at) s = at_item of at s (λ r k. with_some (item_of r k s) s (λ a. Gives a s))

-- A variable takes a value, which is the value of the assignment.
abbrev pub store : Place → Variable → Value → State → Outcome Value
store p (x.Local k) a s = Gives a (with_local k a s)
store p (x.Field of f) a s = with_reference of s (λ r. with_some (field_of r f s) s (λ old. Gives a (with_field r f a s)))
store p (x.Static f) a s = and_then (ready p f s) (λ u s. with_some (in_static f s) s (λ old. Gives a (with_static f a s)))
store p (x.Item of at) a s =
    at_item of at s (λ r k. with_some (element_of r s) s (λ t. storable p.code t a s (λ s. Gives a (with_item r k a s))))
