-- The unchecked operations of a program, by their files and nodes: file by file, class by class, member by member.
use Rattle.std.specs.Prelude.{◌≡◌, ℕ, ◌+◌, ◌<◌, Bool, List, [], ◌∷◌, ◌++◌, map, Option, Some, None, Result, OnOk, IfOk, slice_get}
use Rattle.java_tree.specs.declared.tree.Node.{Node}
use Rattle.class_world.specs.declared.world.TypeInfo.{TypeInfo}
use Rattle.class_world.specs.declared.world.JavaType.{JavaType}
use Rattle.class_world.specs.declared.world.JavaType.TheVariants as ty
use Rattle.class_world.specs.Types.{with_own}
use Rattle.java_core.specs.Plain as p
use Rattle.type_facts.specs.declared.questions.Questions.{Questions}
use Rattle.type_facts.specs.Facts.{AreFacts, Facts}
use Rattle.member_uses.specs.Targets.{superclass}
use Rattle.unchecked_ops.specs.declared.program.Operation.{Operation}
use Rattle.unchecked_ops.specs.Casting.{AreCasts}
use Rattle.unchecked_ops.specs.Operations.{member_ops}

-- the type of `this` in a class of this number: the class with its own variables (8.1.2)
abbrev pub this_type : (class : ℕ) → Option TypeInfo → JavaType
this_type c None = ty.Class c []
this_type c (Some info) = with_own c info.params

-- the type that `super` stands for (8.1.4); where there is none, nothing is called on it
abbrev pub super_type : Option JavaType → JavaType
super_type None = ty.Null
super_type (Some t) = t

abbrev pub class_ops : Facts → (JavaType → JavaType → Bool) → p.Class → List Node
class_ops f casts x = member_ops f casts (this_type x.number (slice_get f.world.types x.number)) (super_type (superclass f.world x.number)) x.members

abbrev pub classes_ops : Facts → (JavaType → JavaType → Bool) → List p.Class → List Node
classes_ops f casts [] = []
classes_ops f casts (x ∷ xs) = class_ops f casts x ++ classes_ops f casts xs

abbrev pub operation : (file : ℕ) → Node → Operation
operation k n = record { file = k; node = n }

abbrev pub file_ops : Facts → (JavaType → JavaType → Bool) → (file : ℕ) → p.File → List Operation
file_ops f casts k x = map (operation k) (classes_ops f casts x.classes)

-- of the files from the k-th on, each by its own facts
abbrev pub files_ops : (ℕ → Facts) → (JavaType → JavaType → Bool) → (file : ℕ) → List p.File → List Operation
files_ops fs casts k [] = []
files_ops fs casts k (x ∷ xs) = file_ops (fs k) casts k x ++ files_ops fs casts (k + 1) xs

abbrev pub program_ops : (ℕ → Facts) → (JavaType → JavaType → Bool) → p.Program → List Operation
program_ops fs casts x = files_ops fs casts 0 x.files

-- ---- the facts of the files

-- the same questions in another file of the program
abbrev pub in_file : Questions → (file : ℕ) → Questions
in_file q k = record { world = q.world; members = q.members; names = q.names; file = k; length_name = q.length_name }

-- in each of the first n files
abbrev pub AreFileFacts : Questions → (n : ℕ) → (ℕ → Facts) → Type 0
AreFileFacts q n fs = (k : ℕ) → k < n → AreFacts (in_file q k) (fs k)

-- ---- what is said of a call

-- It puts on what these make of any facts of the k-th file.
abbrev pub PutsIn : {A E : Type 0} → Questions → (k : ℕ) → Result A E → (old new : List Operation) → (Facts → (JavaType → JavaType → Bool) → List Operation) → Type 0
PutsIn q k r old new made = (f : Facts) → AreFacts (in_file q k) f → (u : JavaType → JavaType → Bool) → AreCasts q.world.now u → OnOk r (new ≡ old ++ made f u)

-- It puts on what these make of any facts of the first n files.
abbrev pub PutsOf : {A E : Type 0} → Questions → (n : ℕ) → Result A E → (old new : List Operation) → ((ℕ → Facts) → (JavaType → JavaType → Bool) → List Operation) → Type 0
PutsOf q n r old new made = (fs : ℕ → Facts) → AreFileFacts q n fs → (u : JavaType → JavaType → Bool) → AreCasts q.world.now u → OnOk r (new ≡ old ++ made fs u)

-- It gives them.
abbrev pub Gives : {E : Type 0} → Questions → (n : ℕ) → Result (List Operation) E → ((ℕ → Facts) → (JavaType → JavaType → Bool) → List Operation) → Type 0
Gives q n r made = (fs : ℕ → Facts) → AreFileFacts q n fs → (u : JavaType → JavaType → Bool) → AreCasts q.world.now u → IfOk r (λ o. o ≡ made fs u)
