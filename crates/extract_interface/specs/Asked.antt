-- The class, the methods and the name that are asked for, and the rules on them.
use Rattle.std.specs.Prelude.{◌≡◌, ℕ, ◌⊎◌, Bool, true, false, ◌&&◌, not, List, [], ◌∷◌, ◌++◌, Contains, Option, Some, None, slice_get}
use Rattle.java_tree.specs.declared.tree.Name.{Name}
use Rattle.java_tree.specs.declared.tree.Mod.TheVariants as mods
use Rattle.java_tree.specs.declared.tree.SourceUnit.{SourceUnit}
use Rattle.class_world.specs.declared.world.World.{World}
use Rattle.class_world.specs.declared.world.TypeInfo.{TypeInfo}
use Rattle.class_world.specs.declared.world.MethodInfo.{MethodInfo}
use Rattle.java_core.specs.declared.program.CoreClass.{CoreClass}
use Rattle.java_core.specs.declared.program.CoreFile.{CoreFile}
use Rattle.type_kinds.specs.Kinds.{has}
use Rattle.type_kinds.specs.Members.{method_at}
use Rattle.command_words.specs.Names.{folder_of, source_name}
use Rattle.interface_text.specs.Names.{text_of}
use Rattle.generalize_declared.specs.declared.asked.CheckedSource.{CheckedSource}

-- ---- the class

-- a class that a user file declares under this name
pub record IsUserClass (w : World) (names : List (List ℕ)) (word : List ℕ) (c : ℕ) (i : TypeInfo) : Type 0 where
  pub there : slice_get w.types c ≡ Some i
  pub user : i.user ≡ true
  pub class : i.interface ≡ false
  pub named : text_of names i.name ≡ word

-- and its declaration, in the file of a number
pub record IsDeclared (s : CheckedSource) (c file : ℕ) (core : CoreClass) : Type 0 where
  pub in_file : CoreFile
  pub there : slice_get s.core.now.files file ≡ Some in_file
  pub holds : Contains in_file.classes core
  pub number : core.number ≡ c

-- ---- its methods

abbrev pub IsNamed : (names : List (List ℕ)) → (word : List ℕ) → Option MethodInfo → Type 0
IsNamed names word None = ⊥
IsNamed names word (Some m) = (m.constructor ≡ false) × (text_of names m.name ≡ word)

-- one of these methods has the name
abbrev pub HasMethod : World → (names : List (List ℕ)) → (ms : List ℕ) → (word : List ℕ) → Type 0
HasMethod w names ms word = (m : ℕ) × Contains ms m × IsNamed names word (method_at w m)

-- each of the names is that of one
abbrev pub HasAll : World → (names : List (List ℕ)) → (ms : List ℕ) → (words : List (List ℕ)) → Type 0
HasAll w names ms words = (word : List ℕ) → Contains words word → HasMethod w names ms word

-- a method of one of the names
abbrev pub IsWanted : World → (names words : List (List ℕ)) → (m : ℕ) → Type 0
IsWanted w names words m = (word : List ℕ) × Contains words word × IsNamed names word (method_at w m)

-- those of these methods that have one of the names, in their order
abbrev pub AreWanted : World → (names words : List (List ℕ)) → (all wanted : List ℕ) → Type 0
AreWanted w names words [] ms = ms ≡ []
AreWanted w names words (k ∷ ks) ms =
    (IsWanted w names words k × ((js : List ℕ) × (ms ≡ k ∷ js) × AreWanted w names words ks js)) ⊎ ((IsWanted w names words k → ⊥) × AreWanted w names words ks ms)

abbrev pub is_public : Option MethodInfo → Bool
is_public None = false
is_public (Some m) = has mods.Public m.mods

abbrev pub is_static : Option MethodInfo → Bool
is_static None = false
is_static (Some m) = has mods.Static m.mods

abbrev pub all_public : World → List ℕ → Bool
all_public w [] = true
all_public w (m ∷ ms) = is_public (method_at w m) && all_public w ms

abbrev pub none_static : World → List ℕ → Bool
none_static w [] = true
none_static w (m ∷ ms) = not (is_static (method_at w m)) && none_static w ms

-- ---- the new name

-- a type has the name, or the first identifier of its package is that
abbrev pub IsFirst : (names : List (List ℕ)) → (word : List ℕ) → List Name → Type 0
IsFirst names word [] = ⊥
IsFirst names word (x ∷ xs) = text_of names x ≡ word

abbrev pub TakesName : (names : List (List ℕ)) → (word : List ℕ) → TypeInfo → Type 0
TakesName names word i = (text_of names i.name ≡ word) ⊎ IsFirst names word i.«package»

-- so does a type or a file of the program
abbrev pub IsTaken : World → CheckedSource → (word : List ℕ) → Type 0
IsTaken w s word =
    ((i : TypeInfo) × Contains w.types i × TakesName s.names.now word i) ⊎ ((u : SourceUnit) × Contains s.units.now u × IsFirst s.names.now word u.«package»)

-- the new file stands beside that of the class
abbrev pub created_name : (file word : List ℕ) → List ℕ
created_name file word = folder_of file ++ source_name word
