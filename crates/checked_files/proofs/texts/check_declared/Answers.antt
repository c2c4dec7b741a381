use Rattle.std.proofs.Common.{◌≡◌, ℕ, List, map, take, drop, Result, sym, ◌∙◌, ap, subst}
use Rattle.java_tree.specs.Names.{AreDistinct}
use Rattle.java_tree.specs.View.{unit_plain}
use Rattle.java_tree.specs.declared.tree.SourceUnit.{SourceUnit}
use Rattle.class_world.specs.Sound.{IsSound}
use Rattle.decl_table.specs.Judged.{IsProgram}
use Rattle.checker.specs.Checking.{IsCheckedBy}
use Rattle.checker.specs.declared.check.CheckedProgram.{CheckedProgram}
use Rattle.checker.specs.declared.fault.CheckFault.{CheckFault}
use Rattle.checked_files.specs.declared.declarations.Declared.{Declared}
use Rattle.checked_files.specs.Checked.{AreDeclaredIn}
use Rattle.checked_files.proofs.Tables.{words_table, of_split}
use Rattle.checked_files.proofs.texts.check_declared.Goals as goal

module _ (users : ℕ) (texts table : List (List ℕ)) (units : List SourceUnit) (d : Declared) (of : AreDeclaredIn users texts table (map unit_plain units) d) where
  distinct : AreDistinct table
  distinct = subst AreDistinct (sym of.words) (words_table of.names of.read.table).distinct

  sound : IsSound d.world
  sound = subst IsSound of.declared.world of.declared.declared.holds.sound

  -- the program of user files and library files, as the code splits them
  split_program : (us user lib : List SourceUnit) → us ≡ units → user ≡ take users us → lib ≡ drop users us → IsProgram table (map unit_plain user) (map unit_plain lib) of.declared.declared.program
  split_program us user lib same front back =
      let p = of.declared.declared.program in
      let first = front ∙ ap (λ (us : List SourceUnit). take users us) same in
      let last = back ∙ ap (λ (us : List SourceUnit). drop users us) same in
      let named = subst (λ (ns : List (List ℕ)). IsProgram ns (take users (map unit_plain units)) (drop users (map unit_plain units)) p) (sym of.words) of.declared.declared.files in
      of_split users table units user lib p first last named

pub check_files-requires-clause-sound : goal.check_files-requires-clause-sound
check_files-requires-clause-sound c = sound _ _ _ _ _ c.requires.declared

pub check_files-requires-clause-distinct : goal.check_files-requires-clause-distinct
check_files-requires-clause-distinct c = distinct _ _ _ _ _ c.requires.declared

pub check_files-requires-clause-program : goal.check_files-requires-clause-program
check_files-requires-clause-program c =
    (c.requires.declared.declared.declared.program, split_program _ _ _ c.args.units _ c.requires.declared _ _ _ c.as_slice.ensures c.split_at.ensures.front c.split_at.ensures.back)

pub returns-in-Ok-clause-checked : goal.returns-in-Ok-clause-checked
returns-in-Ok-clause-checked c =
    let d = c.requires.declared in
    let is = split_program _ _ _ c.args.units _ d _ _ _ c.as_slice.ensures c.split_at.ensures.front c.split_at.ensures.back in
    record {
      declared = d;
      checked = subst (λ (r : Result CheckedProgram CheckFault). IsCheckedBy d.declared.declared.program c.args.declared.world r) c.in-Ok.is (c.check_files.ensures d.declared.declared.program is);
    }

pub returns-in-Ok-clause-asked : goal.returns-in-Ok-clause-asked
returns-in-Ok-clause-asked c = record { sound = sound _ _ _ _ _ c.requires.declared; members = c.requires.declared.declared.members }

pub returns-in-Err-clause-checked : goal.returns-in-Err-clause-checked
returns-in-Err-clause-checked c =
    let d = c.requires.declared in
    let is = split_program _ _ _ c.args.units _ d _ _ _ c.as_slice.ensures c.split_at.ensures.front c.split_at.ensures.back in (
      c.args.names,
      map unit_plain c.args.units,
      c.args.declared,
      record {
        declared = d;
        checked = subst (λ (r : Result CheckedProgram CheckFault). IsCheckedBy d.declared.declared.program c.args.declared.world r) c.in-Err.is (c.check_files.ensures d.declared.declared.program is);
      },
    )
