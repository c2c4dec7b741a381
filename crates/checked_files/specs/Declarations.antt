-- The program that files declare, and what it breaks.
use Rattle.std.specs.Prelude.{ℕ, ◌⊎◌, List, take, drop}
use Rattle.java_tree.specs.Plain.{SourceUnit}
use Rattle.java_tree.specs.declared.fault.Broken.{Broken}
use Rattle.java_tree.specs.declared.fault.Family.TheVariants as family
use Rattle.class_world.specs.declared.world.World.{World}
use Rattle.rule_order.specs.First.{IsNone, IsFirstOf}
use Rattle.decl_table.specs.Program.{Program, IsRefusal, IsProgramWorld}
use Rattle.decl_table.specs.Judged.{IsProgram}
use Rattle.member_table.specs.Table.{MemberBreaches}
use Rattle.built_in_types.specs.BuiltIns.{with_words}

-- Of these trees so many first ones are those of user files, and the others those of library files. The table of names has those of the files first, and
-- behind them those that the built-in types need.
abbrev pub IsOfFiles : (users : ℕ) → (names : List (List ℕ)) → List SourceUnit → Program → Type 0
IsOfFiles users names units = IsProgram (with_words names) (take users units) (drop users units)

-- their declarations break no rule, and the members of their types none
pub record AreDeclared (users : ℕ) (names : List (List ℕ)) (units : List SourceUnit) : Type 0 where
  pub program : Program
  pub world : World
  pub files : IsOfFiles users names units program
  pub holds : IsProgramWorld (with_words names) program world
  pub members : IsNone (MemberBreaches world)

-- Their declarations break no rule, and of the rules on the members of their types this is the first broken one.
abbrev pub IsMemberRefusal : (names : List (List ℕ)) → Program → Broken → Type 0
IsMemberRefusal names p b = (w : World) × IsProgramWorld names p w × IsFirstOf family.DR (MemberBreaches w) b

-- this is the broken rule that is named
pub record IsBroken (users : ℕ) (names : List (List ℕ)) (units : List SourceUnit) (b : Broken) : Type 0 where
  pub program : Program
  pub files : IsOfFiles users names units program
  pub refusal : IsRefusal (with_words names) program b ⊎ IsMemberRefusal (with_words names) program b
