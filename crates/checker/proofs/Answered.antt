-- What the check of a program's files says of the program.
use Rattle.std.proofs.Common.{◌≡◌, ◌<◌, ℕ, List, Result, Ok, Err, ◌++◌, length, map, ap, sym, subst, ◌∙◌}
use Rattle.std.proofs.lemmas.List.{length-map}
use Rattle.java_tree.specs.declared.tree.SourceUnit.{SourceUnit}
use Rattle.java_tree.specs.View.{unit_plain}
use Rattle.java_core.specs.Plain as core
use Rattle.java_core.specs.declared.program.CoreProgram.{CoreProgram}
use Rattle.java_core.specs.View.{file_plain, program_plain}
use Rattle.checked.specs.Checked.{Checked, Fine, Broken, Stops}
use Rattle.checked.specs.declared.stop.Stop.{Stop}
use Rattle.checked.specs.declared.stop.Stop.TheVariants as stop
use Rattle.built_in_types.specs.declared.words.Word.TheVariants.{Length}
use Rattle.built_in_types.specs.BuiltIns.{name_of}
use Rattle.type_names.specs.Known.{files_of}
use Rattle.type_names.specs.Tables.{StandsFor}
use Rattle.decl_table.specs.Judged.{IsProgram}
use Rattle.decl_table.specs.Program.{Program, java}
use Rattle.type_facts.specs.declared.questions.Questions.{Questions}
use Rattle.type_facts.specs.Facts.{Facts}
use Rattle.check_program.specs.Typing.{program}
use Rattle.unchecked_ops.specs.Programs.{AreFileFacts}
use Rattle.checker.specs.declared.check.CheckedProgram.{CheckedProgram}
use Rattle.checker.specs.declared.fault.CheckFault.{CheckFault}
use Rattle.checker.specs.declared.fault.CheckFault.TheVariants as fault
use Rattle.checker.specs.Checking.{AreAllFacts, IsChecked, IsCheckedBy, IsWellTyped, type_fault}
use Rattle.checker.specs.Flows.{IsJudged}
use Rattle.checker.proofs.Counts.{as_many_files}
use Rattle.checker.proofs.Facts.{are_asked, are_files}

module _ (p : Program) (q : Questions) (names : List (List ℕ)) (us ls : List SourceUnit) (is : IsProgram names (map unit_plain us) (map unit_plain ls) p)
    (stands : StandsFor q.names.now (java p) (files_of (map unit_plain us) (map unit_plain ls))) (named : q.length_name ≡ name_of p.words Length) where
  pub checked : (c : Checked core.Program) → ((fs : ℕ → Facts) → AreFileFacts q (length (us ++ ls)) fs → program fs (map unit_plain (us ++ ls)) ≡ c) → IsChecked p q.world.now c
  checked c are fs all = sym (are fs (are_asked p q names us ls is stands named fs all)) ∙ ap (λ l. program fs l) (sym (are_files p q names us ls is))

  pub stopped : (e : Stop) → ((fs : ℕ → Facts) → AreFileFacts q (length (us ++ ls)) fs → Stops e (program fs (map unit_plain (us ++ ls)))) → IsCheckedBy p q.world.now (Err (type_fault e))
  stopped (stop.Broken n r) are = checked (Broken n r) are
  stopped stop.NoMemory are = tt

  -- the facts of the files that were checked are those of the files of the core
  of_files : (x : CoreProgram) → ((fs : ℕ → Facts) → AreFileFacts q (length (us ++ ls)) fs → program fs (map unit_plain (us ++ ls)) ≡ Fine (program_plain x))
      → (fs : ℕ → Facts) → AreAllFacts p q.world.now fs → AreFileFacts q (length (map file_plain x.files)) fs
  of_files x fine fs all k within =
      let asked = are_asked p q names us ls is stands named fs all in
      let counted : length (map file_plain x.files) ≡ length (map unit_plain (us ++ ls)) = as_many_files fs (map unit_plain (us ++ ls)) (program_plain x) (fine fs asked) in
      let many : length (map file_plain x.files) ≡ length (us ++ ls) = counted ∙ length-map (us ++ ls) unit_plain in
      asked k (subst (λ n. k < n) many within)

  pub judged : (x : CoreProgram) (r : Result CheckedProgram CheckFault)
      → ((fs : ℕ → Facts) → AreFileFacts q (length (us ++ ls)) fs → program fs (map unit_plain (us ++ ls)) ≡ Fine (program_plain x))
      → IsJudged q (program_plain x) r → IsCheckedBy p q.world.now r
  judged x (Ok c) fine is_so = subst (λ (y : core.Program). IsWellTyped p q.world.now y c.operations) (sym is_so.0) (record {
    checked = checked (Fine (program_plain x)) fine;
    flows = is_so.1;
    unchecked = λ fs all casts are. is_so.2 fs (of_files x fine fs all) casts are;
  })
  judged x (Err (fault.Flow n r)) fine is_so = record { core = program_plain x; checked = checked (Fine (program_plain x)) fine; first = is_so }
  judged x (Err (fault.Type n r)) fine is_so = absurd is_so
  judged x (Err fault.NoMemory) fine is_so = tt
