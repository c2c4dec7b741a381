-- What operations on strings do, in the words of the code.
use Rattle.std.specs.Prelude.{ℕ, List, Option, Some, None, Result, Ok, Err, slice_get}
use Rattle.core_meaning.specs.declared.values.Value.{Value}
use Rattle.core_meaning.specs.declared.values.Value.TheVariants as v
use Rattle.core_meaning.specs.declared.values.State.{State}
use Rattle.core_meaning.specs.BuiltIns.{null_pointer_exception, string_index_exception}
use Rattle.core_meaning.specs.Outcome.{Outcome, Gives, throws_plain, throws_saying, misfit}
use Rattle.core_meaning.specs.Members.{new_text}

-- what a value does that is not what an operation needs
abbrev pub refused : {A : Type 0} → Value → State → Outcome A
refused v.Null s = throws_plain null_pointer_exception s
refused _ s = misfit s

-- the units of a string
abbrev pub units_in : Value → State → Option (List ℕ)
units_in (v.Text k) s = slice_get s.texts k
units_in _ s = None

-- the number of an object or array
abbrev pub object_in : Value → Option ℕ
object_in (v.Ref r) = Some r
object_in _ = None

-- a unit, or an index that has none, as a string
abbrev pub given_unit : Result ℕ (List ℕ) → State → Outcome Value
given_unit (Ok c) s = Gives (v.Char c) s
given_unit (Err index) s = throws_saying string_index_exception index s

-- a new string, or the index that is wrong, as a string
abbrev pub given_cut : Result (List ℕ) (List ℕ) → State → Outcome Value
given_cut (Ok units) s = new_text units s
given_cut (Err index) s = throws_saying string_index_exception index s

abbrev pub given_part : Option (Result (List ℕ) (List ℕ)) → State → Outcome Value
given_part None s = misfit s
given_part (Some cut) s = given_cut cut s
