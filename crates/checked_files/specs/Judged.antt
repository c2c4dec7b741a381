-- What the judging of a program's declarations answers.
use Rattle.std.specs.Prelude.{◌≡◌, ℕ, List, Result, Ok, Err}
use Rattle.java_tree.specs.Plain.{SourceUnit}
use Rattle.java_tree.specs.declared.fault.Fault.{Fault}
use Rattle.java_tree.specs.declared.fault.Fault.TheVariants as fault
use Rattle.member_table.specs.Table.{HoldsMembers}
use Rattle.checked_files.specs.declared.declarations.Declared.{Declared}
use Rattle.checked_files.specs.Declarations.{AreDeclared, IsBroken}

-- no rule is broken, and these are the world and its members
pub record AreDeclaredAs (users : ℕ) (names : List (List ℕ)) (units : List SourceUnit) (d : Declared) : Type 0 where
  pub declared : AreDeclared users names units
  pub world : declared.world ≡ d.world
  pub members : HoldsMembers d.world d.members

abbrev pub AreJudged : (users : ℕ) → (names : List (List ℕ)) → List SourceUnit → Result Declared Fault → Type 0
AreJudged users names units (Ok d) = AreDeclaredAs users names units d
AreJudged users names units (Err (fault.Broken b)) = IsBroken users names units b
AreJudged users names units (Err fault.NoMemory) = Unit {0}
