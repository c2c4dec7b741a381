-- What a run of files answers that break no rule.
use Rattle.std.specs.Prelude.{ℕ, List, length, Option}
use Rattle.java_tree.specs.Plain.{SourceUnit}
use Rattle.java_core.specs.Plain as e
use Rattle.core_meaning.specs.declared.values.End.{End}
use Rattle.core_meaning.specs.declared.values.End.TheVariants as end
use Rattle.built_in_types.specs.BuiltIns.{with_words}
use Rattle.tool_files.specs.Told.{Look}
use Rattle.unchecked_ops.specs.declared.program.Operation.{Operation}
use Rattle.checker.specs.Checking.{IsWellTyped}
use Rattle.program_runs.specs.declared.answer.RunAnswer.TheVariants.{Ran}
use Rattle.program_runs.specs.Told.{IsRun}
use Rattle.refactor_app.specs.declared.status.Status.{Status}
use Rattle.refactor_app.specs.declared.status.Status.TheVariants as s
use Rattle.refactor_app.specs.Words.{Files, AsksRun}
use Rattle.refactor_app.specs.Refusals.{HasDeclared}

-- the words ask for a run of files that break no rule, this is its report, and so it ends
pub record Runs (words : List (List ℕ)) (look : Option Look) (line : List ℕ) (how : End) : Type 0 where
  pub fs : Files
  pub texts : List (List ℕ)
  pub names : List (List ℕ)
  pub units : List SourceUnit
  pub steps : ℕ
  pub class : List ℕ
  pub args : List (List ℕ)
  pub core : e.Program
  pub operations : List Operation
  pub asks : AsksRun words steps class args fs
  pub declared : HasDeclared words look fs texts names units
  pub typed : IsWellTyped declared.declared.program declared.declared.world core operations
  -- a name's number is its place in the table, where those that the built-in types need stand behind those of the files
  pub runs : IsRun declared.declared.world (with_words names) core (length fs.users) class args steps (Ran line how)

-- how a call ends whose run ends so
abbrev pub run_status : End → Status
run_status end.Normal = s.Done
run_status (end.Threw k) = s.Threw
run_status end.AtBound = s.Bound
