-- A table of names: the list of their texts, by number.
use Rattle.std.specs.Prelude.{◌≡◌, ℕ, if◌then◌else◌, List, [], ◌∷◌, ◌++◌, Some, slice_get, codes}
use Rattle.std.specs.List.{position_or_len, list_any}
use Rattle.std.specs.Str.{bytes_eq}

-- the first place of a text, or the number after the last
abbrev pub number_of : List ℕ → List (List ℕ) → ℕ
number_of text names = position_or_len (bytes_eq text) names

-- the table with the text: at the end, if it is new
abbrev pub with_text : List ℕ → List (List ℕ) → List (List ℕ)
with_text text names = if list_any (bytes_eq text) names then names else names ++ text ∷ []

-- each number of the old table has its text in the new one
abbrev pub IsFront : List (List ℕ) → List (List ℕ) → Type 0
IsFront old new = (n : ℕ) (text : List ℕ) → slice_get old n ≡ Some text → slice_get new n ≡ Some text

-- no text has two numbers
abbrev pub AreDistinct : List (List ℕ) → Type 0
AreDistinct names = (m n : ℕ) (text : List ℕ) → slice_get names m ≡ Some text → slice_get names n ≡ Some text → m ≡ n

-- the simple names of the types that a program has without declaring them, from number 0
abbrev pub built_in_names : List (List ℕ)
built_in_names =
    codes "Object"
    ∷ codes "String"
    ∷ codes "System"
    ∷ codes "PrintStream"
    ∷ codes "Throwable"
    ∷ codes "Exception"
    ∷ codes "Error"
    ∷ codes "RuntimeException"
    ∷ codes "ArithmeticException"
    ∷ codes "NullPointerException"
    ∷ codes "ClassCastException"
    ∷ codes "ArrayStoreException"
    ∷ codes "NegativeArraySizeException"
    ∷ codes "IndexOutOfBoundsException"
    ∷ codes "ArrayIndexOutOfBoundsException"
    ∷ codes "StringIndexOutOfBoundsException"
    ∷ codes "LinkageError"
    ∷ codes "ExceptionInInitializerError"
    ∷ codes "NoClassDefFoundError"
    ∷ []

-- the table of a program
pub record IsTable (names : List (List ℕ)) : Type 0 where
  pub distinct : AreDistinct names
  pub built_in : IsFront built_in_names names
