-- The types that a program has without declaring them, by their numbers, and their members, by theirs.
use Rattle.std.specs.Prelude.{ℕ, Bool, true, false, List, [], ◌∷◌, ◌++◌, Option, slice_get}
use Rattle.core_meaning.specs.declared.built_ins.BuiltIn.{BuiltIn}
use Rattle.core_meaning.specs.declared.built_ins.BuiltIn.TheVariants.{NewObject, NewThrowable, ObjectToString, ObjectEquals, ObjectHashCode, Length, CharAt, SubstringFrom, SubstringBetween, CompareTo, StringEquals, StringHashCode, StringToString, Print, PrintChars, PrintLine, GetMessage, ThrowableToString}

-- ---- types

abbrev pub object_class : ℕ
object_class = 0

abbrev pub string_class : ℕ
string_class = 1

abbrev pub print_stream : ℕ
print_stream = 3

-- the class Error
abbrev pub error_class : ℕ
error_class = 6

abbrev pub arithmetic_exception : ℕ
arithmetic_exception = 8

abbrev pub null_pointer_exception : ℕ
null_pointer_exception = 9

abbrev pub class_cast_exception : ℕ
class_cast_exception = 10

abbrev pub array_store_exception : ℕ
array_store_exception = 11

abbrev pub negative_array_size_exception : ℕ
negative_array_size_exception = 12

abbrev pub array_index_exception : ℕ
array_index_exception = 14

abbrev pub string_index_exception : ℕ
string_index_exception = 15

abbrev pub exception_in_initializer_error : ℕ
exception_in_initializer_error = 17

abbrev pub no_class_def_found_error : ℕ
no_class_def_found_error = 18

-- ---- fields

-- System.out
abbrev pub out_field : ℕ
out_field = 0

-- ---- methods and constructors

-- the two constructors of a throwable
abbrev pub throwable : List BuiltIn
throwable = NewThrowable false ∷ NewThrowable true ∷ []

-- of one boolean, char, int, long, char[], String or Object
abbrev pub prints : (line : Bool) → List BuiltIn
prints line = Print line ∷ Print line ∷ Print line ∷ Print line ∷ PrintChars line ∷ Print line ∷ Print line ∷ []

-- By number: of Object, String, PrintStream and Throwable; and then the constructors of the fourteen classes below Throwable.
abbrev pub members : List BuiltIn
members =
    NewObject ∷ ObjectToString ∷ ObjectEquals ∷ ObjectHashCode
    ∷ Length ∷ CharAt ∷ SubstringFrom ∷ SubstringBetween ∷ CompareTo ∷ StringEquals ∷ StringHashCode ∷ StringToString
    ∷ (prints false ++ prints true ++ PrintLine
    ∷ throwable ++ GetMessage ∷ ThrowableToString
    ∷ throwable ++ throwable ++ throwable ++ throwable ++ throwable ++ throwable ++ throwable ++ throwable ++ throwable ++ throwable ++ throwable ++ throwable ++ throwable ++ throwable)

-- what a method or constructor is, where it is built in
abbrev pub built_in : ℕ → Option BuiltIn
built_in m = slice_get members m

-- the methods that the language calls by itself (15.18.1.1), in the class that declares them
abbrev pub to_string : ℕ
to_string = 1

abbrev pub hash_code : ℕ
hash_code = 3

abbrev pub get_message : ℕ
get_message = 29
