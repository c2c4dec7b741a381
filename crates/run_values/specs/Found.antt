-- The item that an array and an index name, and what is done with items and fields of what has a number.
use Rattle.std.specs.Prelude.{ℕ, ℤ, Bool, Option, Some, None, slice_get}
use Rattle.class_world.specs.declared.world.JavaType.{JavaType}
use Rattle.core_meaning.specs.declared.values.Value.{Value}
use Rattle.core_meaning.specs.declared.values.Value.TheVariants as v
use Rattle.core_meaning.specs.declared.values.State.{State}
use Rattle.core_meaning.specs.State.{element_of, field_of, item_count, item_of, items_of, with_field, with_item}
use Rattle.core_meaning.specs.Texts.{number_units}
use Rattle.core_meaning.specs.BuiltIns.{array_index_exception, array_store_exception, null_pointer_exception}
use Rattle.core_meaning.specs.Outcome.{Outcome, Gives, misfit, throws_plain, throws_saying, with_some}
use Rattle.core_meaning.specs.Code.{Code}
use Rattle.core_meaning.specs.Variables.{index_in, storable}
use Rattle.core_meaning.specs.Statements.{take_item}
use Rattle.run_values.specs.Tests.{by_test}
use Rattle.run_values.specs.declared.items.Found.{Found}
use Rattle.run_values.specs.declared.items.Found.TheVariants as found

abbrev pub placed : (array : ℕ) → Option ℕ → ℤ → Found
placed r None z = found.Outside z
placed r (Some k) z = found.At r k

abbrev pub among : (array count : ℕ) → (at : Value) → Found
among r n (v.Int z) = placed r (index_in z n) z
among r n _ = found.NoRule

abbrev pub counted : (array : ℕ) → Option ℕ → (at : Value) → Found
counted r None i = found.NoRule
counted r (Some n) i = among r n i

abbrev pub found_at : (of at : Value) → State → Found
found_at v.Null i s = found.NoArray
found_at (v.Ref r) i s = counted r (item_count r s) i
found_at _ i s = found.NoRule

-- what is done with it
abbrev pub by_found : {B : Type 0} → Found → State → (ℕ → ℕ → Outcome B) → Outcome B
by_found (found.At r k) s f = f r k
by_found found.NoArray s f = throws_plain null_pointer_exception s
by_found (found.Outside z) s f = throws_saying array_index_exception (number_units z) s
by_found found.NoRule s f = misfit s

-- the item
abbrev pub item_read : Found → State → Outcome Value
item_read x s = by_found x s (λ r k. with_some (item_of r k s) s (λ a. Gives a s))

-- an item takes a value that the array may hold
abbrev pub stored_at : Code → (array at : ℕ) → Value → State → Outcome Value
stored_at c r k a s = with_some (element_of r s) s (λ t. storable c t a s (λ s. Gives a (with_item r k a s)))

abbrev pub item_stored : Code → Found → Value → State → Outcome Value
item_stored c x a s = by_found x s (λ r k. stored_at c r k a s)

-- the same by the store test
abbrev pub stored_by : Option Bool → (array at : ℕ) → Value → State → Outcome Value
stored_by x r k a s = by_test x (λ s. Gives a (with_item r k a s)) (throws_plain array_store_exception) s

-- a variable takes an item of an array, where there is one in this place
abbrev pub taken_from : (slot : ℕ) → (type : JavaType) → (array at : ℕ) → State → Outcome Bool
taken_from k u r at s = with_some (items_of r s) s (λ xs. take_item k u (slice_get xs at) s)

-- a field that an object has takes a value
abbrev pub held_set : (object field : ℕ) → Value → State → Outcome Value
held_set r f a s = with_some (field_of r f s) s (λ old. Gives a (with_field r f a s))
