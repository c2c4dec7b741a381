-- What a check answers where no rule is broken.
use Rattle.std.specs.Prelude.{◌≡◌, ℕ, List, ◌++◌, length, flat_map, Option, Some}
use Rattle.java_tree.specs.Plain.{SourceUnit}
use Rattle.java_core.specs.Plain as e
use Rattle.tool_files.specs.Told.{Look}
use Rattle.report_text.specs.Report.{unchecked_at, checked_files}
use Rattle.node_places.specs.declared.place.NodePlace.{NodePlace}
use Rattle.unchecked_ops.specs.declared.program.Operation.{Operation}
use Rattle.checker.specs.Checking.{IsWellTyped}
use Rattle.refactor_app.specs.Words.{Files, inputs, AsksCheck}
use Rattle.refactor_app.specs.Declarations.{place_name}
use Rattle.refactor_app.specs.Refusals.{HasDeclared}

-- the first byte of an operation
abbrev pub operation_place : Operation → NodePlace
operation_place o = record { file = o.file; at = o.node.span.from }

abbrev pub unchecked_line : Files → (texts : List (List ℕ)) → Operation → List ℕ
unchecked_line fs texts o = unchecked_at (place_name fs texts (Some (operation_place o)))

-- a line for each unchecked operation, and the count of the files
abbrev pub check_report : Files → (texts : List (List ℕ)) → List Operation → List ℕ
check_report fs texts operations = flat_map (unchecked_line fs texts) operations ++ checked_files (length (inputs fs))

-- the words ask for a check of files that break no rule, and this is its report
pub record Passes (words : List (List ℕ)) (look : Option Look) (report : List ℕ) : Type 0 where
  pub fs : Files
  pub texts : List (List ℕ)
  pub names : List (List ℕ)
  pub units : List SourceUnit
  pub core : e.Program
  pub operations : List Operation
  pub asks : AsksCheck words fs
  pub declared : HasDeclared words look fs texts names units
  pub typed : IsWellTyped declared.declared.program declared.declared.world core operations
  pub is : report ≡ check_report fs texts operations
