-- What the judging of a program's declarations answers.
use Rattle.std.specs.Prelude.{◌≡◌, ◌≤◌, ℕ, List, Option, Some, None, Result, Ok, Err}
use Rattle.java_tree.specs.declared.fault.Broken.{Broken}
use Rattle.java_tree.specs.declared.fault.Family.{Family}
use Rattle.java_tree.specs.declared.fault.Family.TheVariants as family
use Rattle.java_tree.specs.declared.fault.Fault.{Fault}
use Rattle.java_tree.specs.declared.fault.Fault.TheVariants as fault
use Rattle.java_tree.specs.Plain.{SourceUnit}
use Rattle.rule_order.specs.declared.Breach.{Breach}
use Rattle.class_world.specs.declared.world.World.{World}
use Rattle.class_world.specs.Sound.{IsSound}
use Rattle.built_in_types.specs.BuiltIns.{AreWords}
use Rattle.decl_table.specs.declared.program.Judged.{Judged}
use Rattle.decl_table.specs.declared.program.Judged.TheVariants as judged
use Rattle.decl_table.specs.Program.{Program, DeclarationSet, IsEarlyRefusal, IsRefusal, IsProgramWorld, SameDeclared}
use Rattle.built_in_types.specs.declared.types.BuiltIns.{BuiltIns}
use Rattle.type_names.specs.declared.known.JavaNames.{JavaNames}
use Rattle.type_names.specs.Known.{File}
use Rattle.program_world.specs.ProgramWorld.{world_of}
use Rattle.rule_order.specs.First.{Breaches, IsNone, IsFirstOf}
use Rattle.iterables.specs.Walks.{WalkIs}

abbrev pub IsJudged : List (List ℕ) → Program → Judged → Type 0
IsJudged names p (judged.Declared w) = IsProgramWorld names p w
IsJudged names p (judged.Refused b) = IsRefusal names p b

-- where no rule before the DR rules is broken, and the built-in types are these
abbrev pub IsDeclared : List (List ℕ) → BuiltIns → JavaNames → List File → Judged → Type 0
IsDeclared names b j fs (judged.Declared w) = IsNone (DeclarationSet b j fs) × IsSound w × WalkIs names w.walk w × SameDeclared (world_of b j fs) w
IsDeclared names b j fs (judged.Refused x) = IsFirstOf family.DR (DeclarationSet b j fs) x

-- the first of these rules, or a limit; or none is broken
abbrev pub IsEarly : Breaches → (types methods : ℕ) → Option Broken → Type 0
IsEarly S types methods (Some b) = IsEarlyRefusal S types methods b
IsEarly S types methods None = IsNone S × (types ≤ 4096) × (methods ≤ 65536)

-- the same world with its table and its walk
abbrev pub IsTabled : List (List ℕ) → World → Judged → Type 0
IsTabled names w (judged.Declared v) = IsSound v × WalkIs names v.walk v × SameDeclared w v
IsTabled names w (judged.Refused b) = ⊥

-- a broken rule of a family, with its node
abbrev pub named : Family → Breach → Broken
named f b = record { family = f; number = b.rule; node = Some b.node }

-- The program of these files, where the table has the names that built-in types need.
abbrev pub IsProgram : List (List ℕ) → List SourceUnit → List SourceUnit → Program → Type 0
IsProgram names user lib p = (p.user ≡ user) × (p.lib ≡ lib) × AreWords names p.words

-- the world, or the broken rule; nothing is said where memory ran out
abbrev pub IsBuilding : List (List ℕ) → List SourceUnit → List SourceUnit → Result World Fault → Type 0
IsBuilding names user lib (Ok w) = (p : Program) × IsProgram names user lib p × IsProgramWorld names p w
IsBuilding names user lib (Err (fault.Broken b)) = (p : Program) × IsProgram names user lib p × IsRefusal names p b
IsBuilding names user lib (Err fault.NoMemory) = Unit {0}
