-- Members of built-in types, string conversion and calls, in two places of one program.
use Rattle.std.proofs.Common.{ℕ, Bool, true, false, List, [], ◌∷◌, Option, Some, None, ℤ, refl}
use Rattle.std.specs.Prelude.{slice_get, option_and_then, unsigned_abs}
use Rattle.core_meaning.specs.declared.values.Value.{Value}
use Rattle.core_meaning.specs.declared.values.Value.TheVariants as v
use Rattle.core_meaning.specs.declared.values.State.{State}
use Rattle.core_meaning.specs.State.{message_of, items_of}
use Rattle.core_meaning.specs.Numbers.{same_reference}
use Rattle.core_meaning.specs.declared.built_ins.BuiltIn.{BuiltIn}
use Rattle.core_meaning.specs.declared.built_ins.BuiltIn.TheVariants as b
use Rattle.core_meaning.specs.Outcome.{Outcome}
use Rattle.core_meaning.specs.BuiltIns.{built_in, to_string, hash_code, get_message}
use Rattle.core_meaning.specs.Texts.{length_of}
use Rattle.core_meaning.specs.Classes.{name_at, class_of}
use Rattle.core_meaning.specs.Members.{literal_at, literal, with_none, with_one, with_two, is_in_text, char_at, is_no_begin, is_no_end, substring, equals_text, identity_hash, saying, printed, chars_of, print_chars, plain, found_on, entered_or, asked, object_text, said, throwable_text, speaking, told, text_of, print, performed, invoked, called}
use Rattle.bound_laws.proofs.Further.{Further, Always, prefix_itself, kept, amiss, more, ends, then_on, choose_on}
use Rattle.bound_laws.proofs.Primitives.{Places, low, high, some_on, reference_on, unless_null_on, units_on, int_on}

-- ---- strings and arguments

literal_at_on : (o : Option ℕ) (units : List ℕ) → Always (literal_at o units) (literal_at o units)
literal_at_on None units s = ends (kept s) refl
literal_at_on (Some k) units s = ends (kept s) refl

pub literal_on : (units : List ℕ) → Always (literal units) (literal units)
literal_on units s = search literal_at_on

none_on : {s : State} {o o' o'' : Outcome Value} (xs : List Value) → Further s o o' o'' → Further s (with_none xs s o) (with_none xs (more s) o') (with_none xs s o'')
none_on [] h = h
none_on {s} (x ∷ xs) h = ends (amiss s) refl

one_on : {s : State} {f f' f'' : Value → Outcome Value} (xs : List Value) → ((x : Value) → Further s (f x) (f' x) (f'' x))
    → Further s (with_one xs s f) (with_one xs (more s) f') (with_one xs s f'')
one_on {s} [] h = ends (amiss s) refl
one_on (x ∷ []) h = h x
one_on {s} (x ∷ y ∷ xs) h = ends (amiss s) refl

two_on : {s : State} {f f' f'' : Value → Value → Outcome Value} (xs : List Value) → ((x y : Value) → Further s (f x y) (f' x y) (f'' x y))
    → Further s (with_two xs s f) (with_two xs (more s) f') (with_two xs s f'')
two_on {s} [] h = ends (amiss s) refl
two_on {s} (x ∷ []) h = ends (amiss s) refl
two_on (x ∷ y ∷ []) h = h x y
two_on {s} (x ∷ y ∷ z ∷ xs) h = ends (amiss s) refl

-- ---- members that call nothing

char_at_on : (units : List ℕ) (z : ℤ) → Always (char_at units z) (char_at units z)
char_at_on units z s = choose_on (is_in_text z units) (λ s. some_on (slice_get units (unsigned_abs z)) (λ c. ends (kept s) refl)) (λ s. ends (kept s) refl) s

substring_on : (units : List ℕ) (x y : ℤ) → Always (substring units x y) (substring units x y)
substring_on units x y s = choose_on (is_no_begin x units) (λ s. ends (kept s) refl) (λ s. choose_on (is_no_end x y units) (λ s. ends (kept s) refl) (λ s. ends (kept s) refl) s) s

equals_text_on : (units : List ℕ) (a : Value) → Always (equals_text units a) (equals_text units a)
equals_text_on units (v.Text k) s = some_on (slice_get s.texts k) (λ xs. ends (kept s) refl)
equals_text_on units _ s = ends (kept s) refl

identity_hash_on : (a : Value) → Always (identity_hash a) (identity_hash a)
identity_hash_on (v.Ref r) s = ends (kept s) refl
identity_hash_on _ s = ends (amiss s) refl

saying_on : (a m : Value) → Always (saying a m) (saying a m)
saying_on a m s = reference_on a (λ r. some_on (message_of r s) (λ old. ends (kept s) refl))

-- the one member that prints
printed_on : (line : Bool) (units : List ℕ) → Always (printed line units) (printed line units)
printed_on true units s = ends ((_, refl), prefix_itself s.entered, λ w. w) refl
printed_on false units s = ends ((_, refl), prefix_itself s.entered, λ w. w) refl

print_chars_on : (line : Bool) (a : Value) → Always (print_chars line a) (print_chars line a)
print_chars_on line a s = reference_on a (λ r. some_on (option_and_then chars_of (items_of r s)) (λ units. printed_on line units s))

plain_on : (x : BuiltIn) (a : Value) (xs : List Value) → Always (plain x a xs) (plain x a xs)
plain_on b.NewObject a xs s = none_on xs (ends (kept s) refl)
plain_on (b.NewThrowable false) a xs s = none_on xs (ends (kept s) refl)
plain_on (b.NewThrowable true) a xs s = one_on xs (λ m. saying_on a m s)
plain_on b.ObjectEquals a xs s = one_on xs (λ x. some_on (same_reference a x) (λ y. ends (kept s) refl))
plain_on b.ObjectHashCode a xs s = none_on xs (identity_hash_on a s)
plain_on b.Length a xs s = none_on xs (units_on a (λ units. ends (kept s) refl))
plain_on b.CharAt a xs s = one_on xs (λ x. units_on a (λ units. int_on x (λ z. char_at_on units z s)))
plain_on b.SubstringFrom a xs s = one_on xs (λ x. units_on a (λ units. int_on x (λ z. substring_on units z (length_of units) s)))
plain_on b.SubstringBetween a xs s = two_on xs (λ x y. units_on a (λ units. int_on x (λ z. int_on y (λ w. substring_on units z w s))))
plain_on b.CompareTo a xs s = one_on xs (λ x. units_on a (λ units. units_on x (λ others. ends (kept s) refl)))
plain_on b.StringEquals a xs s = one_on xs (λ x. units_on a (λ units. equals_text_on units x s))
plain_on b.StringHashCode a xs s = none_on xs (units_on a (λ units. ends (kept s) refl))
plain_on b.StringToString a xs s = none_on xs (ends (kept s) refl)
plain_on (b.PrintChars line) a xs s = one_on xs (λ x. print_chars_on line x s)
plain_on b.PrintLine a xs s = none_on xs (printed_on true [] s)
plain_on b.GetMessage a xs s = none_on xs (reference_on a (λ r. some_on (message_of r s) (λ m. ends (kept s) refl)))
plain_on _ a xs s = ends (amiss s) refl

said_on : (name : List ℕ) (a : Value) → Always (said name a) (said name a)
said_on name v.Null s = ends (kept s) refl
said_on name (v.Text k) s = some_on (slice_get s.texts k) (λ units. ends (kept s) refl)
said_on name _ s = ends (amiss s) refl

told_on : (a : Value) → Always (told a) (told a)
told_on v.Null s = ends (kept s) refl
told_on (v.Text k) s = some_on (slice_get s.texts k) (λ xs. ends (kept s) refl)
told_on _ s = ends (amiss s) refl

-- ---- members that call others, and calls

-- what a built-in member does in the two places
abbrev Does : (f f' : BuiltIn → Value → List Value → State → Outcome Value) → Type 0
Does f f' = (x : BuiltIn) (a : Value) (xs : List Value) → Always (f x a xs) (f' x a xs)

module _ (q : Places) where
  found_method_on : {s : State} {f f' f'' : ℕ → Outcome Value} (m : ℕ) (a : Value) → ((k : ℕ) → Further s (f k) (f' k) (f'' k))
      → Further s (found_on (low q) m a s f) (found_on (high q) m a (more s) f') (found_on (high q) m a s f'')
  found_method_on {s} m v.Null h = ends (amiss s) refl
  found_method_on {s} m a h = some_on (class_of a s) (λ k. some_on (q.code.found m k) h)

  entered_or_on : {f f' : BuiltIn → Value → List Value → State → Outcome Value} → Does f f' → (o : Option BuiltIn) (k : ℕ) (a : Value) (xs : List Value)
      → Always (entered_or f o (low q) k a xs) (entered_or f' o (high q) k a xs)
  entered_or_on h None k a xs s = q.calls k a xs s
  entered_or_on h (Some x) k a xs s = h x a xs s

  asked_on : {f f' : BuiltIn → Value → List Value → State → Outcome Value} → Does f f' → (m : ℕ) (a : Value) → Always (asked f (low q) m a) (asked f' (high q) m a)
  asked_on h m a s = found_method_on m a (λ k. entered_or_on h (built_in k) k a [] s)

  object_text_on : (a : Value) → Always (object_text (low q) a) (object_text (high q) a)
  object_text_on a s = reference_on a (λ r. some_on (name_at q.code r s) (λ name. then_on (asked_on plain_on hash_code a s) (λ h s. int_on h (λ z. ends (kept s) refl))))

  throwable_text_on : (a : Value) → Always (throwable_text (low q) a) (throwable_text (high q) a)
  throwable_text_on a s = reference_on a (λ r. some_on (name_at q.code r s) (λ name. then_on (asked_on plain_on get_message a s) (λ m s. said_on name m s)))

  speaking_on : Does (speaking (low q)) (speaking (high q))
  speaking_on b.ObjectToString a xs s = none_on xs (object_text_on a s)
  speaking_on b.ThrowableToString a xs s = none_on xs (throwable_text_on a s)
  speaking_on x a xs s = plain_on x a xs s

  pub text_of_on : (a : Value) → Always (text_of (low q) a) (text_of (high q) a)
  text_of_on (v.Text k) s = told_on (v.Text k) s
  text_of_on (v.Ref r) s = then_on (asked_on speaking_on to_string (v.Ref r) s) (λ a s. told_on a s)
  text_of_on _ s = ends (kept s) refl

  print_on : (line : Bool) (a : Value) → Always (print (low q) line a) (print (high q) line a)
  print_on line a s = then_on (text_of_on a s) (λ units s. printed_on line units s)

  performed_on : Does (performed (low q)) (performed (high q))
  performed_on (b.Print line) a xs s = one_on xs (λ x. print_on line x s)
  performed_on x a xs s = speaking_on x a xs s

  pub invoked_on : (k : ℕ) (a : Value) (xs : List Value) → Always (invoked (low q) k a xs) (invoked (high q) k a xs)
  invoked_on k a xs s = entered_or_on performed_on (built_in k) k a xs s

  pub called_on : (m : ℕ) (a : Value) (xs : List Value) → Always (called (low q) m a xs) (called (high q) m a xs)
  called_on m a xs s = unless_null_on a (found_method_on m a (λ k. invoked_on k a xs s))
