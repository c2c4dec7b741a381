-- What the check of a program answers.
use Rattle.std.specs.Prelude.{◌≡◌, ◌↔◌, IsTrue, ℕ, ◌<◌, Bool, List, ◌++◌, Some, None, Result, Ok, Err, length, slice_get}
use Rattle.java_tree.specs.declared.tree.Name.{Name}
use Rattle.class_world.specs.declared.world.World.{World}
use Rattle.class_world.specs.declared.world.JavaType.{JavaType}
use Rattle.class_world.specs.declared.access.Declared.{Declared}
use Rattle.class_world.specs.Access.{Sees}
use Rattle.class_world.specs.Inheritance.{FieldIs}
use Rattle.class_world.specs.Subtypes.{Fits, IsUnchecked, Subtype}
use Rattle.built_in_types.specs.declared.words.Word.TheVariants.{Length}
use Rattle.built_in_types.specs.BuiltIns.{name_of}
use Rattle.type_names.specs.Known.{File}
use Rattle.type_names.specs.Sees.{meant}
use Rattle.decl_table.specs.Program.{Program, files, java}
use Rattle.type_kinds.specs.Casts.{Castable}
use Rattle.type_kinds.specs.OfWorld.{AreBoth, SuperIs}
use Rattle.type_facts.specs.Facts.{Facts, MethodsAre}
use Rattle.unchecked_ops.specs.Casting.{AreCasts}
use Rattle.unchecked_ops.specs.Programs.{program_ops}
use Rattle.check_program.specs.Typing.{program}
use Rattle.java_core.specs.Plain as core
use Rattle.java_core.specs.View.{program_plain}
use Rattle.checked.specs.Checked.{Checked, Fine, Broken}
use Rattle.checked.specs.declared.stop.Stop.{Stop}
use Rattle.checked.specs.declared.stop.Stop.TheVariants as stop
use Rattle.unchecked_ops.specs.declared.program.Operation.{Operation}
use Rattle.checker.specs.declared.check.CheckedProgram.{CheckedProgram}
use Rattle.checker.specs.declared.fault.CheckFault.{CheckFault}
use Rattle.checker.specs.declared.fault.CheckFault.TheVariants as fault
use Rattle.checker.specs.Flows.{IsFlow}

-- What is so in the k-th file of a program with this world, user files before library files: the type that a name means there (JLS 6.5), and what its world tells of
-- types and members.
pub record AreFactsOf (p : Program) (w : World) (k : ℕ) (f : Facts) : Type 0 where
  pub world : f.world ≡ w
  pub length_name : f.length_name ≡ name_of p.words Length
  pub file : File
  pub at : slice_get (files p) k ≡ Some file
  pub mean : (x : Name) → f.mean x ≡ meant (java p) (files p) file x
  pub fits : (s t : JavaType) → IsTrue (f.fits s t) ↔ (AreBoth w s t × Fits w s t)
  pub sub : (s t : JavaType) → IsTrue (f.sub s t) ↔ (AreBoth w s t × Subtype w s t)
  pub unchecked : (s t : JavaType) → IsTrue (f.unchecked s t) ↔ (AreBoth w s t × IsUnchecked w s t)
  pub castable : (s t : JavaType) → IsTrue (f.castable s t) ↔ (AreBoth w s t × Castable w s t)
  pub super_as : (t : JavaType) (g : ℕ) → SuperIs w t g (f.super_as t g)
  pub field : (t : JavaType) (x : Name) → FieldIs w t x (f.field t x)
  pub methods : (c : ℕ) (x : Name) (n : ℕ) → MethodsAre w c x n (f.methods c x n)
  pub sees : (c : ℕ) (d : Declared) → IsTrue (f.sees c d) ↔ Sees w c d None

-- file by file
abbrev pub AreAllFacts : Program → World → (ℕ → Facts) → Type 0
AreAllFacts p w fs = (k : ℕ) → k < length (files p) → AreFactsOf p w k (fs k)

-- The core of a program with this world, or the first of T1 to T60 that it breaks, with its node: what the rules of the language make of whatever is so in its files.
abbrev pub IsChecked : Program → World → Checked core.Program → Type 0
IsChecked p w c = (fs : ℕ → Facts) → AreAllFacts p w fs → c ≡ program fs (p.user ++ p.lib)

-- the unchecked operations of a core
abbrev pub AreUnchecked : Program → World → core.Program → List Operation → Type 0
AreUnchecked p w c operations =
    (fs : ℕ → Facts) → AreAllFacts p w fs → (casts : JavaType → JavaType → Bool) → AreCasts w casts → operations ≡ program_ops fs casts c

-- no rule on types or flow is broken, and these are the core and its unchecked operations
pub record IsWellTyped (p : Program) (w : World) (x : core.Program) (operations : List Operation) : Type 0 where
  pub checked : IsChecked p w (Fine x)
  pub flows : IsFlow w x None
  pub unchecked : AreUnchecked p w x operations

-- this is the first broken rule on types, at this node
abbrev pub IsIllTyped : Program → World → (node rule : ℕ) → Type 0
IsIllTyped p w node rule = IsChecked p w (Broken node rule)

-- none on types is broken, and this is the first on flow, at this node
pub record IsIllFlowing (p : Program) (w : World) (node rule : ℕ) : Type 0 where
  pub core : core.Program
  pub checked : IsChecked p w (Fine core)
  pub first : IsFlow w core (Some (record { node = node; rule = rule }))

-- why no core was made
abbrev pub type_fault : Stop → CheckFault
type_fault (stop.Broken node rule) = fault.Type node rule
type_fault stop.NoMemory = fault.NoMemory

-- nothing is said where memory ran out
abbrev pub IsCheckedBy : Program → World → Result CheckedProgram CheckFault → Type 0
IsCheckedBy p w (Ok x) = IsWellTyped p w (program_plain x.core) x.operations
IsCheckedBy p w (Err (fault.Type node rule)) = IsIllTyped p w node rule
IsCheckedBy p w (Err (fault.Flow node rule)) = IsIllFlowing p w node rule
IsCheckedBy p w (Err fault.NoMemory) = Unit {0}
