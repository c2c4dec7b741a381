-- The members of built-in types, and the methods that the language calls by itself. Built-in members take no step and are not listed as entered; methods of the program
-- that they call are.
use Rattle.std.specs.Prelude.{ℕ, ℤ, pos, Bool, true, false, ◌&&◌, ◌||◌, List, [], ◌∷◌, ◌++◌, length, Option, Some, None, slice_get, slice_range, option_and_then, codes, int_lt, int_le, unsigned_abs}
use Rattle.std.specs.Int.{w32, int_wrap}
use Rattle.std.specs.List.{find}
use Rattle.std.specs.Option.{option_map}
use Rattle.core_meaning.specs.declared.values.Value.{Value}
use Rattle.core_meaning.specs.declared.values.Value.TheVariants as v
use Rattle.core_meaning.specs.declared.values.State.{State}
use Rattle.core_meaning.specs.State.{message_of, items_of, with_text, with_literal, with_message, with_printed}
use Rattle.core_meaning.specs.Numbers.{same_reference}
use Rattle.core_meaning.specs.Texts.{number_units, truth_units, null_units, hex_units, same_units, is_text, hash_of, difference, length_of, printed_bytes}
use Rattle.core_meaning.specs.declared.built_ins.BuiltIn.{BuiltIn}
use Rattle.core_meaning.specs.declared.built_ins.BuiltIn.TheVariants as b
use Rattle.core_meaning.specs.BuiltIns.{built_in, to_string, hash_code, get_message, string_index_exception}
use Rattle.core_meaning.specs.Outcome.{Outcome, Gives, and_then, throws_saying, misfit, with_some, with_reference, unless_null, with_units, with_int, choose}
use Rattle.core_meaning.specs.Classes.{name_at, class_of}
use Rattle.core_meaning.specs.Variables.{Place}

-- ---- strings

-- a new string
abbrev pub new_text : List ℕ → State → Outcome Value
new_text units s = Gives (v.Text (length s.texts)) (with_text units s)

abbrev pub literal_at : Option ℕ → List ℕ → State → Outcome Value
literal_at None units s = Gives (v.Text (length s.texts)) (with_literal units s)
literal_at (Some k) units s = Gives (v.Text k) s

-- The string of a literal: equal literals are one object (JLS 3.10.5).
abbrev pub literal : List ℕ → State → Outcome Value
literal units s = literal_at (find (is_text units s.texts) s.literals) units s

-- ---- arguments

abbrev pub with_none : List Value → State → Outcome Value → Outcome Value
with_none [] s o = o
with_none _ s o = misfit s

abbrev pub with_one : List Value → State → (Value → Outcome Value) → Outcome Value
with_one (x ∷ []) s f = f x
with_one _ s f = misfit s

abbrev pub with_two : List Value → State → (Value → Value → Outcome Value) → Outcome Value
with_two (x ∷ y ∷ []) s f = f x y
with_two _ s f = misfit s

-- ---- members that call nothing

abbrev pub is_in_text : ℤ → List ℕ → Bool
is_in_text z units = int_le (pos 0) z && int_lt z (length_of units)

abbrev pub char_at : List ℕ → ℤ → State → Outcome Value
char_at units z s = choose (is_in_text z units) (λ s. with_some (slice_get units (unsigned_abs z)) s (λ c. Gives (v.Char c) s))
    (throws_saying string_index_exception (number_units z)) s

abbrev pub is_no_begin : ℤ → List ℕ → Bool
is_no_begin x units = int_lt x (pos 0) || int_lt (length_of units) x

abbrev pub is_no_end : (begin end : ℤ) → List ℕ → Bool
is_no_end x y units = int_lt y x || int_lt (length_of units) y

-- The index that is wrong is named: where it begins, if that is below 0 or above the length, else where it ends.
abbrev pub substring : List ℕ → (begin end : ℤ) → State → Outcome Value
substring units x y s = choose (is_no_begin x units) (throws_saying string_index_exception (number_units x))
    (λ s. choose (is_no_end x y units) (throws_saying string_index_exception (number_units y))
    (new_text (slice_range units (unsigned_abs x) (unsigned_abs y))) s) s

-- an object that is no string is not equal to one, nor is null
abbrev pub equals_text : List ℕ → Value → State → Outcome Value
equals_text units (v.Text k) s = with_some (slice_get s.texts k) s (λ xs. Gives (v.Truth (same_units units xs)) s)
equals_text units _ s = Gives (v.Truth false) s

-- Objects and arrays are numbered in order of allocation; the low 32 bits of the number are the identity hash.
abbrev pub identity_hash : Value → State → Outcome Value
identity_hash (v.Ref r) s = Gives (v.Int (int_wrap w32 (pos r))) s
identity_hash _ s = misfit s

-- a new throwable takes its message
abbrev pub saying : Value → Value → State → Outcome Value
saying a m s = with_reference a s (λ r. with_some (message_of r s) s (λ old. Gives v.Null (with_message r m s)))

-- prints a string; a void method answers null, which nobody reads
abbrev pub printed : (line : Bool) → List ℕ → State → Outcome Value
printed true units s = Gives v.Null (with_printed (printed_bytes units ++ 10 ∷ []) s)
printed false units s = Gives v.Null (with_printed (printed_bytes units) s)

abbrev pub chars_of : List Value → Option (List ℕ)
chars_of [] = Some []
chars_of (v.Char c ∷ xs) = option_map (λ cs. c ∷ cs) (chars_of xs)
chars_of _ = None

abbrev pub print_chars : (line : Bool) → Value → State → Outcome Value
print_chars line a s = with_reference a s (λ r. with_some (option_and_then chars_of (items_of r s)) s (λ units. printed line units s))

-- `a` is the object and `xs` the arguments
abbrev pub plain : BuiltIn → (a : Value) → (xs : List Value) → State → Outcome Value
plain b.NewObject a xs s = with_none xs s (Gives v.Null s)
plain (b.NewThrowable false) a xs s = with_none xs s (Gives v.Null s)
plain (b.NewThrowable true) a xs s = with_one xs s (λ m. saying a m s)
plain b.ObjectEquals a xs s = with_one xs s (λ x. with_some (same_reference a x) s (λ y. Gives (v.Truth y) s))
plain b.ObjectHashCode a xs s = with_none xs s (identity_hash a s)
plain b.Length a xs s = with_none xs s (with_units a s (λ units. Gives (v.Int (length_of units)) s))
plain b.CharAt a xs s = with_one xs s (λ x. with_units a s (λ units. with_int x s (λ z. char_at units z s)))
plain b.SubstringFrom a xs s = with_one xs s (λ x. with_units a s (λ units. with_int x s (λ z. substring units z (length_of units) s)))
plain b.SubstringBetween a xs s = with_two xs s (λ x y. with_units a s (λ units. with_int x s (λ z. with_int y s (λ w. substring units z w s))))
plain b.CompareTo a xs s = with_one xs s (λ x. with_units a s (λ units. with_units x s (λ others. Gives (v.Int (int_wrap w32 (difference units others))) s)))
plain b.StringEquals a xs s = with_one xs s (λ x. with_units a s (λ units. equals_text units x s))
plain b.StringHashCode a xs s = with_none xs s (with_units a s (λ units. Gives (v.Int (hash_of units)) s))
plain b.StringToString a xs s = with_none xs s (Gives a s)
plain (b.PrintChars line) a xs s = with_one xs s (λ x. print_chars line x s)
plain b.PrintLine a xs s = with_none xs s (printed true [] s)
plain b.GetMessage a xs s = with_none xs s (with_reference a s (λ r. with_some (message_of r s) s (λ m. Gives m s)))
plain _ a xs s = misfit s

-- ---- members that call hashCode() and getMessage()

-- the method that runs for m on an object, array or string (15.12.4.4)
abbrev pub found_on : Place → (m : ℕ) → Value → State → (ℕ → Outcome Value) → Outcome Value
found_on p m a s f = with_some (class_of a s) s (λ k. with_some (p.code.found m k) s f)

-- a method of the program is entered, a built-in one does what it does
abbrev pub entered_or : (BuiltIn → Value → List Value → State → Outcome Value) → Option BuiltIn → Place → ℕ → Value → List Value → State → Outcome Value
entered_or does None p k a xs s = p.call k a xs s
entered_or does (Some x) p k a xs s = does x a xs s

-- a call that the language makes by itself
abbrev pub asked : (BuiltIn → Value → List Value → State → Outcome Value) → Place → (m : ℕ) → Value → State → Outcome Value
asked does p m a s = found_on p m a s (λ k. entered_or does (built_in k) p k a [] s)

-- the name of the class, `@` and what hashCode() answers
abbrev pub object_text : Place → Value → State → Outcome Value
object_text p a s = with_reference a s (λ r. with_some (name_at p.code r s) s (λ name.
    and_then (asked plain p hash_code a s) (λ h s. with_int h s (λ z. new_text (name ++ codes "@" ++ hex_units z) s))))

abbrev pub said : List ℕ → Value → State → Outcome Value
said name v.Null s = new_text name s
said name m s = with_units m s (λ units. new_text (name ++ codes ": " ++ units) s)

-- the name of the class, and behind `: ` what getMessage() answers, where that is not null
abbrev pub throwable_text : Place → Value → State → Outcome Value
throwable_text p a s = with_reference a s (λ r. with_some (name_at p.code r s) s (λ name.
    and_then (asked plain p get_message a s) (λ m s. said name m s)))

abbrev pub speaking : Place → BuiltIn → Value → List Value → State → Outcome Value
speaking p b.ObjectToString a xs s = with_none xs s (object_text p a s)
speaking p b.ThrowableToString a xs s = with_none xs s (throwable_text p a s)
speaking p x a xs s = plain x a xs s

-- ---- string conversion (15.18.1.1), and members that call toString()

-- null is told as `null`, an answer of toString() too
abbrev pub told : Value → State → Outcome (List ℕ)
told v.Null s = Gives null_units s
told (v.Text k) s = with_some (slice_get s.texts k) s (λ xs. Gives xs s)
told _ s = misfit s

-- the string of any value
abbrev pub text_of : Place → Value → State → Outcome (List ℕ)
text_of p (v.Int z) s = Gives (number_units z) s
text_of p (v.Long z) s = Gives (number_units z) s
text_of p (v.Char c) s = Gives (c ∷ []) s
text_of p (v.Truth x) s = Gives (truth_units x) s
text_of p v.Null s = told v.Null s
text_of p (v.Text k) s = told (v.Text k) s
text_of p (v.Ref r) s = and_then (asked (speaking p) p to_string (v.Ref r) s) told

abbrev pub print : Place → (line : Bool) → Value → State → Outcome Value
print p line a s = and_then (text_of p a s) (λ units s. printed line units s)

-- a built-in method or constructor
abbrev pub performed : Place → BuiltIn → Value → List Value → State → Outcome Value
performed p (b.Print line) a xs s = with_one xs s (λ x. print p line x s)
performed p x a xs s = speaking p x a xs s

-- ---- calls

-- a method or constructor, on an object (null where it is static), with arguments
abbrev pub invoked : Place → ℕ → Value → List Value → State → Outcome Value
invoked p k a xs s = entered_or (performed p) (built_in k) p k a xs s

-- a call of an instance method: the null test comes after the arguments, and then the object's class tells the method (15.12.4)
abbrev pub called : Place → (m : ℕ) → Value → List Value → State → Outcome Value
called p m a xs s = unless_null a s (found_on p m a s (λ k. invoked p k a xs s))
