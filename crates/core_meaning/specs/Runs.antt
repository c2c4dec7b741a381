-- The run of a program: its main method with arguments, within a number of steps; and what is reported of it.
use Rattle.std.specs.Prelude.{ℕ, zero, suc, ◌+◌, ◌==◌, Bool, false, not, ◌&&◌, List, [], ◌∷◌, ◌++◌, map, flat_map, length, count_by, Option, Some, None, is_some, slice_get, take, option_and_then, unwrap_or, codes, decimal, if◌then◌else◌}
use Rattle.std.specs.List.{find}
use Rattle.std.specs.Option.{option_map}
use Rattle.std.specs.Str.{bytes_eq}
use Rattle.java_tree.specs.declared.tree.Mod.TheVariants as mods
use Rattle.class_world.specs.declared.world.World.{World}
use Rattle.class_world.specs.declared.world.TypeInfo.{TypeInfo}
use Rattle.class_world.specs.declared.world.MethodInfo.{MethodInfo}
use Rattle.class_world.specs.declared.world.FieldInfo.{FieldInfo}
use Rattle.class_world.specs.declared.world.JavaType.{JavaType}
use Rattle.class_world.specs.declared.world.JavaType.TheVariants as ty
use Rattle.java_core.specs.Plain as e
use Rattle.type_kinds.specs.Kinds.{element, is_string, has}
use Rattle.type_kinds.specs.Members.{is_static_field}
use Rattle.core_meaning.specs.declared.values.Value.{Value}
use Rattle.core_meaning.specs.declared.values.Value.TheVariants as v
use Rattle.core_meaning.specs.declared.values.Progress.{Progress}
use Rattle.core_meaning.specs.declared.values.Progress.TheVariants as progress
use Rattle.core_meaning.specs.declared.values.End.{End}
use Rattle.core_meaning.specs.declared.values.End.TheVariants as end
use Rattle.core_meaning.specs.declared.values.State.{State}
use Rattle.core_meaning.specs.declared.values.Thing.TheVariants.{Object, Array}
use Rattle.core_meaning.specs.Texts.{units_of_bytes}
use Rattle.core_meaning.specs.BuiltIns.{print_stream, string_class, out_field, object_class}
use Rattle.core_meaning.specs.Outcome.{Outcome, Gives, Threw, Bound, after, and_then, with_some, choose}
use Rattle.core_meaning.specs.Code.{Code, classes_of, class_fields, default_value, is_constant}
use Rattle.core_meaning.specs.Classes.{text_of_name, full_name, class_of}
use Rattle.core_meaning.specs.Variables.{Place}
use Rattle.core_meaning.specs.Calls.{enter, initialise, place_at, entered_with, given}

-- ---- before the run

-- System.out is the object of number 0
abbrev pub first_static : ℕ → JavaType → Value
first_static f t = if f == out_field then v.Ref 0 else default_value t

-- what the fields from number f on hold, where they are static
abbrev pub statics_from : World → ℕ → List FieldInfo → List (Option Value)
statics_from w f [] = []
statics_from w f (i ∷ is) = (if is_static_field w i then Some (first_static f i.ty) else None) ∷ statics_from w (f + 1) is

-- a type that no file declares needs no initialisation
abbrev pub first_progress : TypeInfo → Progress
first_progress i = if is_some i.node then progress.Untouched else progress.Done

-- the strings of n arguments
abbrev pub arguments : (from n : ℕ) → List Value
arguments k zero = []
arguments k (suc n) = v.Text k ∷ arguments (k + 1) n

-- The array of arguments, each given in UTF-8, has the number 1. n steps are left.
abbrev pub start : Code → (args : List (List ℕ)) → (n : ℕ) → State
start c args n = record {
  left = n;
  heap = Object print_stream [] v.Null ∷ Array (ty.Class string_class []) (arguments 0 (length args)) ∷ [];
  texts = map units_of_bytes args;
  literals = [];
  statics = statics_from c.world 0 c.world.fields;
  progress = map first_progress c.world.types;
  frame = entered_with v.Null [];
  printed = [];
  entered = [];
  wrong = false;
}

-- all fields that the files declare
abbrev pub all_fields : Code → List e.FieldVar
all_fields c = flat_map (λ (x : e.Class). class_fields (Some x)) (classes_of c.core.files)

-- each constant field holds its literal before anything runs
abbrev pub constants_given : Place → List e.FieldVar → State → Outcome (Unit {0})
constants_given p [] s = Gives tt s
constants_given p (x ∷ xs) s = and_then (choose (is_constant p.code x.field) (given p x.field x.init) (λ s. Gives tt s) s) (λ u s. constants_given p xs s)

-- ---- main (JLS 12.1.4)

abbrev pub is_some_string : Option JavaType → Bool
is_some_string None = false
is_some_string (Some t) = is_string t

abbrev pub is_one_array : List JavaType → Bool
is_one_array (t ∷ []) = is_some_string (element t)
is_one_array _ = false

-- public static void main(String[] x)
abbrev pub is_main_method : Code → Option MethodInfo → Bool
is_main_method c None = false
is_main_method c (Some i) =
    not i.constructor && bytes_eq (text_of_name c i.name) (codes "main") && has mods.Public i.mods && has mods.Static i.mods && not (is_some i.result) && is_one_array i.params

abbrev pub is_main : Code → ℕ → Bool
is_main c m = is_main_method c (slice_get c.world.methods m)

abbrev pub main_among : Code → Option TypeInfo → Option ℕ
main_among c None = None
main_among c (Some i) = find (is_main c) i.methods

-- the main method that a class declares
abbrev pub main_of : Code → (class : ℕ) → Option ℕ
main_of c k = main_among c (slice_get c.world.types k)

-- ---- the class that is run

-- what the first files declare, so many
abbrev pub user_classes : Code → (users : ℕ) → List e.Class
user_classes c users = classes_of (take users c.core.files)

abbrev pub type_name : Code → Option TypeInfo → List ℕ
type_name c None = []
type_name c (Some i) = text_of_name c i.name

abbrev pub is_named : Code → List ℕ → e.Class → Bool
is_named c name x = bytes_eq (type_name c (slice_get c.world.types x.number)) name

abbrev pub if_main : Code → e.Class → Option ℕ
if_main c x = option_map (λ m. x.number) (main_of c x.number)

-- the user's class of this name, where it declares a main method
abbrev pub main_class : Code → (users : ℕ) → (name : List ℕ) → Option ℕ
main_class c users name = option_and_then (if_main c) (find (is_named c name) (user_classes c users))

-- ---- the run

-- The class is initialised, and then main is entered; at most n steps are taken, and at most d calls and initialisations are open at a time.
abbrev pub run_within : Code → (d class : ℕ) → (args : List (List ℕ)) → (n : ℕ) → Outcome Value
run_within c d k args n =
    and_then (constants_given (place_at c d k) (all_fields c) (start c args n)) (λ u s. and_then (initialise c d k s) (λ u s.
    with_some (main_of c k) s (λ m. enter c d m v.Null (v.Ref 1 ∷ []) s)))

abbrev pub is_class : TypeInfo → Bool
is_class i = not i.interface

-- At least as many as the types that can be initialised: classes, and interfaces with a field. An interface without one is never initialised and counts for nothing
-- here, so programs that differ in such interfaces alone run in the same depth.
abbrev pub most_initialised : World → ℕ
most_initialised w = count_by is_class w.types + length w.fields

-- A depth that is enough: no more calls are open than steps are taken, and no more initialisations than there are types that can be initialised.
abbrev pub run : Code → (class : ℕ) → (args : List (List ℕ)) → (n : ℕ) → Outcome Value
run c k args n = run_within c (n + most_initialised c.world) k args n

abbrev pub end_of : Outcome Value → End
end_of (Gives a s) = end.Normal
end_of (Threw k s) = end.Threw (unwrap_or (class_of (v.Ref k) s) object_class)
end_of (Bound s) = end.AtBound

-- what a run printed, which methods and constructors of files it entered, how it ended, and whether it went wrong
pub record Result : Type 0 where
  pub printed : List ℕ
  pub entered : List ℕ
  pub end : End
  pub wrong : Bool

abbrev pub result_of : Outcome Value → Result
result_of o = record { printed = (after o).printed; entered = (after o).entered; end = end_of o; wrong = (after o).wrong }

-- ---- what is reported

abbrev pub end_line : Code → End → List ℕ
end_line c end.Normal = codes "end normal"
end_line c (end.Threw k) = codes "end threw " ++ full_name c k
end_line c end.AtBound = codes "end bound"

-- the number of the printed bytes, the bytes, and how the run ended; an uncaught exception prints nothing else
abbrev pub report : Code → Result → List ℕ
report c r = codes "printed " ++ decimal (length r.printed) ++ 10 ∷ (r.printed ++ 10 ∷ (end_line c r.end ++ 10 ∷ []))

abbrev pub status_of : End → ℕ
status_of end.Normal = 0
status_of (end.Threw k) = 10
status_of end.AtBound = 11
