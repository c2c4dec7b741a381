-- Names of types, methods and packages. The table of names has their texts by number.
use Rattle.std.specs.Prelude.{ℕ, Bool, true, false, ◌==◌, ◌&&◌, List, [], ◌∷◌, ◌++◌, Option, Some, None, slice_get, unwrap_or, codes}
use Rattle.java_tree.specs.declared.tree.Name.{Name}
use Rattle.class_world.specs.declared.world.World.{World}
use Rattle.class_world.specs.declared.world.TypeInfo.{TypeInfo}
use Rattle.class_world.specs.declared.world.MethodInfo.{MethodInfo}

abbrev pub text_of : (names : List (List ℕ)) → Name → List ℕ
text_of names x = unwrap_or (slice_get names x.0) []

abbrev pub name_of_type : (names : List (List ℕ)) → Option TypeInfo → List ℕ
name_of_type names None = []
name_of_type names (Some i) = text_of names i.name

-- the simple name of a type
abbrev pub type_name : World → (names : List (List ℕ)) → (type : ℕ) → List ℕ
type_name w names k = name_of_type names (slice_get w.types k)

abbrev pub name_of_method : (names : List (List ℕ)) → Option MethodInfo → List ℕ
name_of_method names None = []
name_of_method names (Some i) = text_of names i.name

abbrev pub method_name : World → (names : List (List ℕ)) → (method : ℕ) → List ℕ
method_name w names m = name_of_method names (slice_get w.methods m)

abbrev pub home : Option TypeInfo → List Name
home None = []
home (Some i) = i.«package»

abbrev pub package_of : World → (type : ℕ) → List Name
package_of w k = home (slice_get w.types k)

abbrev pub is_same_path : List Name → List Name → Bool
is_same_path [] [] = true
is_same_path [] (y ∷ ys) = false
is_same_path (x ∷ xs) [] = false
is_same_path (x ∷ xs) (y ∷ ys) = (x.0 == y.0) && is_same_path xs ys

-- the texts of a path, with dots between and other bytes before
abbrev pub path_behind : (before : List ℕ) → (names : List (List ℕ)) → List Name → List ℕ
path_behind before names [] = []
path_behind before names (x ∷ xs) = before ++ (text_of names x ++ path_behind (codes ".") names xs)

abbrev pub path_text : (names : List (List ℕ)) → List Name → List ℕ
path_text names xs = path_behind [] names xs

-- the texts of a path, each with a dot behind
abbrev pub dotted : (names : List (List ℕ)) → List Name → List ℕ
dotted names [] = []
dotted names (x ∷ xs) = text_of names x ++ (46 ∷ dotted names xs)

-- the full name of a type (JLS 6.7)
abbrev pub full_name : World → (names : List (List ℕ)) → (type : ℕ) → List ℕ
full_name w names k = dotted names (package_of w k) ++ type_name w names k
