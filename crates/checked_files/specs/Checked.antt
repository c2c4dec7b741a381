-- What the check of texts answers.
use Rattle.std.specs.Prelude.{◌≡◌, ℕ, List, map, Result, Ok, Err}
use Rattle.java_tree.specs.Names.{IsTable, built_in_names}
use Rattle.java_tree.specs.Plain.{SourceUnit}
use Rattle.java_tree.specs.View.{unit_plain}
use Rattle.built_in_types.specs.BuiltIns.{with_words}
use Rattle.source_files.specs.Trees.{AreTrees}
use Rattle.source_files.specs.Answers.{HasParsed}
use Rattle.class_world.specs.Sound.{IsSound}
use Rattle.member_table.specs.Table.{HoldsMembers}
use Rattle.checker.specs.Checking.{IsCheckedBy}
use Rattle.checker.specs.declared.check.CheckedProgram.{CheckedProgram}
use Rattle.checker.specs.declared.fault.CheckFault.{CheckFault}
use Rattle.checked_files.specs.Judged.{AreDeclaredAs, AreJudged}
use Rattle.checked_files.specs.declared.declarations.Declared.{Declared}
use Rattle.checked_files.specs.declared.texts.CheckedFiles.{CheckedFiles}
use Rattle.checked_files.specs.declared.texts.FilesFault.{FilesFault}
use Rattle.checked_files.specs.declared.texts.FilesFault.TheVariants as files

-- the texts have these trees and names
pub record AreRead (texts : List (List ℕ)) (units : List SourceUnit) (names : List (List ℕ)) : Type 0 where
  pub trees : AreTrees built_in_names 0 0 texts units names
  pub table : IsTable names

-- and they declare this, where the table has the names that the built-in types need behind those of the files
pub record AreDeclaredIn (users : ℕ) (texts table : List (List ℕ)) (units : List SourceUnit) (d : Declared) : Type 0 where
  pub names : List (List ℕ)
  pub read : AreRead texts units names
  pub words : table ≡ with_words names
  pub declared : AreDeclaredAs users names units d

-- and so their bodies are judged
pub record AreCheckedBy (users : ℕ) (texts table : List (List ℕ)) (units : List SourceUnit) (d : Declared) (x : Result CheckedProgram CheckFault) : Type 0 where
  pub declared : AreDeclaredIn users texts table units d
  pub checked : IsCheckedBy declared.declared.declared.program d.world x

-- a program that breaks no rule, or the first that it breaks
abbrev pub AreChecked : (users : ℕ) → (texts : List (List ℕ)) → Result CheckedFiles FilesFault → Type 0
AreChecked users texts (Ok x) = AreCheckedBy users texts x.names (map unit_plain x.units) x.declared (Ok x.checked)
AreChecked users texts (Err (files.Tree stop)) = HasParsed texts (Err stop)
AreChecked users texts (Err (files.Declared fault)) =
    (units : List SourceUnit) × (names : List (List ℕ)) × AreRead texts units names × AreJudged users names units (Err fault)
AreChecked users texts (Err (files.Checked fault)) =
    (table : List (List ℕ)) × (units : List SourceUnit) × (d : Declared) × AreCheckedBy users texts table units d (Err fault)

-- what its world and its members tell can be asked
pub record AreAsked (x : CheckedFiles) : Type 0 where
  pub sound : IsSound x.declared.world
  pub members : HoldsMembers x.declared.world x.declared.members
