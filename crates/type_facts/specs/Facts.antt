-- What the checker asks of a program, as functions. Definitions of the rules take them as they are; each has one answer alone, which its relation says.
use Rattle.std.specs.Prelude.{◌≡◌, ◌↔◌, IsTrue, ℕ, Bool, List, [], Option, Some, None, slice_get}
use Rattle.std.specs.List.{Contains}
use Rattle.std.specs.List.Sorted.{IsStrictlyIncreasing}
use Rattle.java_tree.specs.declared.tree.Name.{Name}
use Rattle.class_world.specs.declared.world.World.{World}
use Rattle.class_world.specs.declared.world.JavaType.{JavaType}
use Rattle.class_world.specs.declared.access.Declared.{Declared}
use Rattle.class_world.specs.Access.{Sees}
use Rattle.class_world.specs.Counted.{IsCountedNamed}
use Rattle.class_world.specs.Inheritance.{FieldIs}
use Rattle.class_world.specs.Sound.{IsKnown, IsSound}
use Rattle.class_world.specs.Subtypes.{Fits, IsUnchecked, Subtype}
use Rattle.type_names.specs.declared.known.JavaNames.{JavaNames}
use Rattle.type_names.specs.Known.{File}
use Rattle.type_names.specs.Sees.{meant}
use Rattle.type_names.specs.Tables.{StandsFor}
use Rattle.member_table.specs.Table.{HoldsMembers}
use Rattle.type_facts.specs.declared.questions.Questions.{Questions}
use Rattle.type_kinds.specs.Casts.{Castable}
use Rattle.type_kinds.specs.OfWorld.{AreBoth, SuperIs}

-- In a file of a program: its world; the name `length`; the type that a name means, by number; whether a value fits a variable, a type is below another, fits by an
-- unchecked conversion alone, can be cast; the supertype of a type with this class; the field that a name means in a type; the members of a type that count, by name
-- and number of parameters, ascending; and whether a class has access to a member.
pub record Facts : Type 0 where
  pub world : World
  pub length_name : Name
  pub mean : Name → Option ℕ
  pub fits : JavaType → JavaType → Bool
  pub sub : JavaType → JavaType → Bool
  pub unchecked : JavaType → JavaType → Bool
  pub castable : JavaType → JavaType → Bool
  pub super_as : JavaType → ℕ → Option JavaType
  pub field : JavaType → Name → Option ℕ
  pub methods : ℕ → Name → (arity : ℕ) → List ℕ
  pub sees : ℕ → Declared → Bool

abbrev pub MethodsAre : World → ℕ → Name → ℕ → List ℕ → Type 0
MethodsAre w c x n ms = (IsKnown w c → ((m : ℕ) → Contains ms m ↔ IsCountedNamed w c x n m) × IsStrictlyIncreasing ms) × ((IsKnown w c → ⊥) → ms ≡ [])

pub record AreFacts (q : Questions) (f : Facts) : Type 0 where
  pub world : f.world ≡ q.world.now
  pub length_name : f.length_name ≡ q.length_name
  pub java : JavaNames
  pub files : List File
  pub file : File
  pub stands : StandsFor q.names.now java files
  pub at : slice_get files q.file ≡ Some file
  pub mean : (x : Name) → f.mean x ≡ meant java files file x
  pub fits : (s t : JavaType) → IsTrue (f.fits s t) ↔ (AreBoth q.world.now s t × Fits q.world.now s t)
  pub sub : (s t : JavaType) → IsTrue (f.sub s t) ↔ (AreBoth q.world.now s t × Subtype q.world.now s t)
  pub unchecked : (s t : JavaType) → IsTrue (f.unchecked s t) ↔ (AreBoth q.world.now s t × IsUnchecked q.world.now s t)
  pub castable : (s t : JavaType) → IsTrue (f.castable s t) ↔ (AreBoth q.world.now s t × Castable q.world.now s t)
  pub super_as : (t : JavaType) (g : ℕ) → SuperIs q.world.now t g (f.super_as t g)
  pub field : (t : JavaType) (x : Name) → FieldIs q.world.now t x (f.field t x)
  pub methods : (c : ℕ) (x : Name) (n : ℕ) → MethodsAre q.world.now c x n (f.methods c x n)
  pub sees : (c : ℕ) (d : Declared) → IsTrue (f.sees c d) ↔ Sees q.world.now c d None

-- what the questions need of what they are put to
pub record IsReady (q : Questions) : Type 0 where
  pub sound : IsSound q.world.now
  pub members : HoldsMembers q.world.now q.members.now
