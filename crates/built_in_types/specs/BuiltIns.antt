-- The built-in types with their members. A type's number is also that of its name (java_tree's `built_in_names`).
use Rattle.std.specs.Prelude.{◌≡◌, ℕ, ◌+◌, false, if◌then◌else◌, ◌==◌, ◌||◌, is_none, List, [], ◌∷◌, ◌++◌, map, flat_map, Option, Some, None, option_to_list, slice_get, unwrap_or, length, codes}
use Rattle.std.specs.Option.{option_map}
use Rattle.java_tree.specs.declared.tree.Name.{Name}
use Rattle.java_tree.specs.Names.{with_text}
use Rattle.java_tree.specs.declared.tree.Mod.{Mod}
use Rattle.java_tree.specs.declared.tree.Mod.TheVariants as mods
use Rattle.java_tree.specs.declared.tree.Primitive.TheVariants as prim
use Rattle.class_world.specs.declared.world.TypeInfo.{TypeInfo}
use Rattle.class_world.specs.declared.world.MethodInfo.{MethodInfo}
use Rattle.class_world.specs.declared.world.FieldInfo.{FieldInfo}
use Rattle.class_world.specs.declared.world.JavaType.{JavaType}
use Rattle.class_world.specs.declared.world.JavaType.TheVariants as ty
use Rattle.built_in_types.specs.declared.words.Words.{Words}
use Rattle.built_in_types.specs.declared.rows.Row.{Row}
use Rattle.built_in_types.specs.declared.words.Word.{Word}
use Rattle.built_in_types.specs.declared.words.Word.TheVariants.{Java, Lang, Io, ToString, Equals, HashCode, Length, CharAt, Substring, CompareTo, Out, Print, Println, GetMessage}
use Rattle.built_in_types.specs.declared.rows.Shape.{Shape}
use Rattle.built_in_types.specs.declared.rows.Shape.TheVariants.{Boolean, Char, Int, Long, Chars, Text, Object}

-- parts of names of packages, and names of members
abbrev pub texts : List (List ℕ)
texts =
    codes "java" ∷ codes "lang" ∷ codes "io" ∷ codes "toString" ∷ codes "equals" ∷ codes "hashCode" ∷ codes "length" ∷ codes "charAt" ∷ codes "substring"
    ∷ codes "compareTo" ∷ codes "out" ∷ codes "print" ∷ codes "println" ∷ codes "getMessage" ∷ []

-- each text has its number in the table
abbrev pub AreNumbered : (names ts : List (List ℕ)) → List Name → Type 0
AreNumbered names ts ns = (k : ℕ) (text : List ℕ) → slice_get ts k ≡ Some text → (n : Name) × (slice_get ns k ≡ Some n) × (slice_get names n.0 ≡ Some text)

-- one number for each of the texts
abbrev pub AreWords : (names : List (List ℕ)) → Words → Type 0
AreWords names w = (length w.names ≡ length texts) × AreNumbered names texts w.names

-- the table with each of these texts in turn: a new one comes last
unfoldable pub with_texts : (ts names : List (List ℕ)) → List (List ℕ)
with_texts [] names = names
with_texts (t ∷ ts) names = with_texts ts (with_text t names)

-- the table with the names that the built-in types need
abbrev pub with_words : List (List ℕ) → List (List ℕ)
with_words = with_texts texts

-- the place of a word among them
abbrev pub place : Word → ℕ
place Java = 0
place Lang = 1
place Io = 2
place ToString = 3
place Equals = 4
place HashCode = 5
place Length = 6
place CharAt = 7
place Substring = 8
place CompareTo = 9
place Out = 10
place Print = 11
place Println = 12
place GetMessage = 13

-- the name of a word; there is one for each
abbrev pub name_of : Words → Word → Name
name_of w word = unwrap_or (slice_get w.names (place word)) (record { 0 = 0 })

-- ---- the methods and constructors

-- a constructor of a type, without parameters or with one
abbrev pub new : ℕ → Option Shape → Row
new k param = record { owner = k; word = None; first = param; second = None; result = None }

-- a method of a type: its name, its parameters and its result
abbrev pub method : ℕ → Word → Option Shape → Option Shape → Option Shape → Row
method k word first second result = record { owner = k; word = Some word; first = first; second = second; result = result }

abbrev pub shapes : List Shape
shapes = Boolean ∷ Char ∷ Int ∷ Long ∷ Chars ∷ Text ∷ Object ∷ []

-- PrintStream's methods of this name with one parameter
abbrev pub prints : Word → List Row
prints word = map (λ s. method 3 word (Some s) None None) shapes

-- the two constructors of Throwable and of each class below it
abbrev pub throwables : List ℕ → List Row
throwables = flat_map (λ k. new k None ∷ new k (Some Text) ∷ [])

-- Of Object, String, PrintStream, Throwable, and the classes below Throwable; System has none.
abbrev pub rows : List Row
rows =
    new 0 None ∷ method 0 ToString None None (Some Text) ∷ method 0 Equals (Some Object) None (Some Boolean) ∷ method 0 HashCode None None (Some Int)
    ∷ method 1 Length None None (Some Int) ∷ method 1 CharAt (Some Int) None (Some Char) ∷ method 1 Substring (Some Int) None (Some Text)
    ∷ method 1 Substring (Some Int) (Some Int) (Some Text) ∷ method 1 CompareTo (Some Text) None (Some Int) ∷ method 1 Equals (Some Object) None (Some Boolean)
    ∷ method 1 HashCode None None (Some Int) ∷ method 1 ToString None None (Some Text)
    ∷ (prints Print ++ prints Println ++ method 3 Println None None None ∷ throwables (4 ∷ []) ++ method 4 GetMessage None None (Some Text)
    ∷ method 4 ToString None None (Some Text) ∷ throwables (5 ∷ 6 ∷ 7 ∷ 8 ∷ 9 ∷ 10 ∷ 11 ∷ 12 ∷ 13 ∷ 14 ∷ 15 ∷ 16 ∷ 17 ∷ 18 ∷ []))

-- String is number 1, and Object number 0
abbrev pub shape_type : Shape → JavaType
shape_type Boolean = ty.Prim prim.Boolean
shape_type Char = ty.Prim prim.Char
shape_type Int = ty.Prim prim.Int
shape_type Long = ty.Prim prim.Long
shape_type Chars = ty.Array (ty.Prim prim.Char)
shape_type Text = ty.Class 1 []
shape_type Object = ty.Class 0 []

abbrev pub params_of : Row → List JavaType
params_of r = map shape_type (option_to_list r.first ++ option_to_list r.second)

-- a constructor has its type's name
abbrev pub member_name : Words → Row → Name
member_name w r = named r.word
  where
    named : Option Word → Name
    named None = record { 0 = r.owner }
    named (Some word) = name_of w word

abbrev pub method_info : Words → Row → MethodInfo
method_info w r = record {
  owner = r.owner;
  name = member_name w r;
  constructor = is_none r.word;
  mods = mods.Public ∷ [];
  params = params_of r;
  result = option_map shape_type r.result;
  throws = [];
  node = None;
}

abbrev pub built_in_methods : Words → List MethodInfo
built_in_methods w = map (method_info w) rows

-- ---- the types

-- the numbers of a type's members among rows of which the first has the number n
abbrev pub owned_from : ℕ → ℕ → List Row → List ℕ
owned_from k n [] = []
owned_from k n (r ∷ rs) = if r.owner == k then n ∷ owned_from k (n + 1) rs else owned_from k (n + 1) rs

abbrev pub package_of : Words → ℕ → List Name
package_of w k = name_of w Java ∷ name_of w (if k == 3 then Io else Lang) ∷ []

abbrev pub mods_of : ℕ → List Mod
mods_of k = mods.Public ∷ (if k == 1 || k == 2 then mods.Final ∷ [] else [])

abbrev pub fields_of : ℕ → List ℕ
fields_of k = if k == 2 then 0 ∷ [] else []

abbrev pub type_info : Words → ℕ → Option ℕ → TypeInfo
type_info w k above = record {
  name = record { 0 = k };
  «package» = package_of w k;
  interface = false;
  mods = mods_of k;
  user = false;
  params = 0;
  supers = map (λ p. ty.Class p []) (option_to_list above);
  methods = owned_from k 0 rows;
  fields = fields_of k;
  node = None;
}

-- the types from number k on, each by its superclass
abbrev pub types_from : Words → ℕ → List (Option ℕ) → List TypeInfo
types_from w k [] = []
types_from w k (above ∷ rest) = type_info w k above ∷ types_from w (k + 1) rest

-- The superclasses: of Object none, of Exception (5) and Error (6) Throwable (4), of RuntimeException (7) Exception, of those below it RuntimeException, of
-- the two index exceptions of arrays and strings (14, 15) IndexOutOfBoundsException (13), of LinkageError (16) Error, and of the two errors of initialisation
-- (17, 18) LinkageError.
abbrev pub superclasses : List (Option ℕ)
superclasses =
    None ∷ Some 0 ∷ Some 0 ∷ Some 0 ∷ Some 0 ∷ Some 4 ∷ Some 4 ∷ Some 5 ∷ Some 7 ∷ Some 7 ∷ Some 7 ∷ Some 7 ∷ Some 7 ∷ Some 7 ∷ Some 13 ∷ Some 13 ∷ Some 6 ∷ Some 16 ∷ Some 16 ∷ []

abbrev pub built_in_types : Words → List TypeInfo
built_in_types w = types_from w 0 superclasses

-- System.out
abbrev pub built_in_fields : Words → List FieldInfo
built_in_fields w = record { owner = 2; name = name_of w Out; mods = mods.Public ∷ mods.Static ∷ mods.Final ∷ []; ty = ty.Class 3 []; node = None } ∷ []
