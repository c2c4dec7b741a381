-- What is asked of references: none where what is asked is no reference that the run knows.
use Rattle.std.specs.Prelude.{ℕ, Bool, true, false, Option, Some, None, option_and_then}
use Rattle.std.specs.Option.{option_map}
use Rattle.java_tree.specs.declared.tree.Primitive.{Primitive}
use Rattle.class_world.specs.declared.world.JavaType.{JavaType}
use Rattle.type_kinds.specs.Kinds.{primitive}
use Rattle.core_meaning.specs.declared.values.Value.{Value}
use Rattle.core_meaning.specs.declared.values.Value.TheVariants as v
use Rattle.core_meaning.specs.declared.values.State.{State}
use Rattle.core_meaning.specs.State.{element_of}
use Rattle.core_meaning.specs.Code.{Code}
use Rattle.core_meaning.specs.Classes.{type_of}
use Rattle.core_meaning.specs.Outcome.{Outcome, Gives, choose, with_some}
use Rattle.core_meaning.specs.Variables.{is_below}

-- whether what it is at run time is below a type
abbrev pub below : Code → JavaType → Value → State → Option Bool
below c t a s = option_map (λ u. is_below c u t) (type_of a s)

-- whether a variable of a type may hold it; null is below each
abbrev pub held_as : Code → JavaType → Value → State → Option Bool
held_as c t v.Null s = Some true
held_as c t a s = below c t a s

-- whether it is an instance of a type; null is one of none
abbrev pub instance : Code → JavaType → Value → State → Option Bool
instance c t v.Null s = Some false
instance c t a s = below c t a s

abbrev pub storable_by : Option Primitive → Code → JavaType → Value → State → Option Bool
storable_by None c t a s = held_as c t a s
storable_by (Some q) c t a s = Some true

-- the store test of an array (JLS 10.10)
abbrev pub may_store : Code → (array : ℕ) → Value → State → Option Bool
may_store c r a s = option_and_then (λ t. storable_by (primitive t) c t a s) (element_of r s)

-- one way where it is so, another where it is not
abbrev pub by_test : Option Bool → (go otherwise : State → Outcome Value) → State → Outcome Value
by_test x go otherwise s = with_some x s (λ b. choose b go otherwise s)

-- a value where it may be held
abbrev pub passed : Option Bool → Value → (otherwise : State → Outcome Value) → State → Outcome Value
passed x a otherwise s = by_test x (λ s. Gives a s) otherwise s
