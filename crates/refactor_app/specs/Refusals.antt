-- The first rule that stands against words and files.
use Rattle.std.specs.Prelude.{◌≡◌, ◌<◌, ◌≤◌, ℕ, List, ◌++◌, length, Option, Some, slice_get, codes}
use Rattle.std.specs.Fmt.{decimal}
use Rattle.java_tree.specs.Names.{built_in_names}
use Rattle.java_tree.specs.Plain.{SourceUnit}
use Rattle.java_tree.specs.declared.fault.Broken.{Broken}
use Rattle.java_tree.specs.declared.fault.Family.TheVariants as family
use Rattle.tool_files.specs.Told.{Look}
use Rattle.edit_writer.specs.Places.{place_at}
use Rattle.source_files.specs.Held.{AreHeld, StopsAt, TooLarge, TooMuch}
use Rattle.source_files.specs.Trees.{AreTrees, BreaksAt, Fault, Lexical, Tokens, LeftOut, NoTree}
use Rattle.report_text.specs.Report.{refused, refused_at}
use Rattle.class_world.specs.declared.world.World.{World}
use Rattle.java_core.specs.Plain as e
use Rattle.decl_table.specs.Program.{Program}
use Rattle.unchecked_ops.specs.declared.program.Operation.{Operation}
use Rattle.checker.specs.Checking.{IsIllFlowing, IsIllTyped, IsWellTyped}
use Rattle.program_runs.specs.declared.answer.RunAnswer.TheVariants.{NoMain}
use Rattle.program_runs.specs.Told.{IsRun}
use Rattle.built_in_types.specs.BuiltIns.{with_words}
use Rattle.generalize_declared.specs.declared.command.Against.{Against}
use Rattle.extract_interface.specs.declared.command.Against as extract
use Rattle.extract_interface.specs.declared.command.Answer.TheVariants as answer
use Rattle.refactor_app.specs.Words.{ExtractRequest, Files, Request, inputs, Asks, AsksExtract, AsksRun, AsksSteps, Uses, AskOther}
use Rattle.refactor_app.specs.Changes.{IsAnswered, Stands, against_line}
use Rattle.refactor_app.specs.Extractions as extractions
use Rattle.checked_files.specs.Declarations.{AreDeclared, IsBroken}
use Rattle.refactor_app.specs.Declarations.{broken_line}

abbrev pub most_files : ℕ
most_files = 256

abbrev pub most_steps : ℕ
most_steps = 100000000

-- the words ask for a command on these files, of which there are no more than there may be, and for no more steps
pub record AsksFew (words : List (List ℕ)) (fs : Files) : Type 0 where
  pub uses : Uses words fs
  pub few : length (inputs fs) ≤ most_files
  pub short : (n : ℕ) → AsksSteps words fs n → n ≤ most_steps

-- and these are what the files hold, where contents are told
pub record HasRead (words : List (List ℕ)) (look : Option Look) (fs : Files) (texts : List (List ℕ)) : Type 0 where
  pub asks : AsksFew words fs
  pub held : AreHeld look 0 (inputs fs) texts

-- and these are their trees
pub record HasParsed (words : List (List ℕ)) (look : Option Look) (fs : Files) (texts : List (List ℕ)) (names : List (List ℕ)) (units : List SourceUnit) : Type 0 where
  pub read : HasRead words look fs texts
  pub trees : AreTrees built_in_names 0 0 texts units names

-- whose declarations break no rule
pub record HasDeclared (words : List (List ℕ)) (look : Option Look) (fs : Files) (texts : List (List ℕ)) (names : List (List ℕ)) (units : List SourceUnit) : Type 0 where
  pub parsed : HasParsed words look fs texts names units
  pub declared : AreDeclared (length fs.users) names units

-- a refusal at a byte of the file with this number
pub record IsAt (rule : List ℕ) (fs : Files) (texts : List (List ℕ)) (k at : ℕ) (line : List ℕ) : Type 0 where
  pub name : List ℕ
  pub text : List ℕ
  pub named : slice_get (inputs fs) k ≡ Some name
  pub there : slice_get texts k ≡ Some text
  pub is : line ≡ refused_at rule name (place_at text at)

abbrev pub Tells : Files → List (List ℕ) → ℕ → Fault → List ℕ → Type 0
Tells fs texts k (Lexical rule at) line = IsAt (codes "X" ++ decimal rule) fs texts k at line
Tells fs texts k Tokens line = line ≡ refused (codes "L4")
Tells fs texts k (LeftOut rule at) line = IsAt (codes "S" ++ decimal rule) fs texts k at line
Tells fs texts k (NoTree at) line = IsAt (codes "G1") fs texts k at line

-- a rule on types, at a node, and one on flow
abbrev pub type_rule : (node rule : ℕ) → Broken
type_rule node rule = record { family = family.T; number = rule; node = Some node }

abbrev pub flow_rule : (node rule : ℕ) → Broken
flow_rule node rule = record { family = family.F; number = rule; node = Some node }

-- the first rule that a program breaks whose declarations break none: one on types, or else one on flow
pub data IsCheckRefusal (p : Program) (w : World) : Broken → Type 0 where
  types : (node rule : ℕ) → IsIllTyped p w node rule → IsCheckRefusal p w (type_rule node rule)
  flow : (node rule : ℕ) → IsIllFlowing p w node rule → IsCheckRefusal p w (flow_rule node rule)

-- files whose declarations break no rule, and that break none on types or flow
pub record HasChecked (words : List (List ℕ)) (look : Option Look) (fs : Files) (texts : List (List ℕ)) (names : List (List ℕ)) (units : List SourceUnit) : Type 0 where
  pub declared : HasDeclared words look fs texts names units
  pub core : e.Program
  pub operations : List Operation
  pub typed : IsWellTyped declared.declared.program declared.declared.world core operations

-- the words ask for a run of such files, and the class has no main method, or is none of the user's
pub record HasNoMain (words : List (List ℕ)) (look : Option Look) : Type 0 where
  pub fs : Files
  pub texts : List (List ℕ)
  pub names : List (List ℕ)
  pub units : List SourceUnit
  pub steps : ℕ
  pub class : List ℕ
  pub args : List (List ℕ)
  pub asks : AsksRun words steps class args fs
  pub checked : HasChecked words look fs texts names units
  pub none : IsRun checked.declared.declared.world (with_words names) checked.core (length fs.users) class args steps NoMain

-- the words ask about a place of such files, and this stands against it
pub record HasAgainst (words : List (List ℕ)) (look : Option Look) (q : Request) (texts names : List (List ℕ)) (units : List SourceUnit) (a : Against) : Type 0 where
  pub asks : Asks words q
  pub checked : HasChecked words look q.files texts names units
  pub against : IsAnswered q texts names units checked.declared.declared.program checked.declared.declared.world checked.core checked.operations (Stands a)

-- the words ask for an extraction from such files, and this stands against it
pub record HasExtractAgainst (words : List (List ℕ)) (look : Option Look) (q : ExtractRequest) (texts names : List (List ℕ)) (units : List SourceUnit)
    (a : extract.Against) : Type 0 where
  pub asks : AsksExtract words q
  pub checked : HasChecked words look q.files texts names units
  pub against : extractions.IsAnswered q texts names units checked.declared.declared.world checked.core checked.operations (answer.Against a)

-- The rules in their order: N1, L1, L9, the sizes of the files, their texts, the declarations of the program, the rules on types and on flow, and then S24 or what stands
-- against a question about a place or against an extraction.
pub data Refusal (words : List (List ℕ)) (look : Option Look) : List ℕ → Type 0 where
  n1 : AskOther words → Refusal words look (refused (codes "N1"))
  l1 : (fs : Files) → Uses words fs → most_files < length (inputs fs) → Refusal words look (refused (codes "L1"))
  l9 : (fs : Files) (n : ℕ) → AsksSteps words fs n → length (inputs fs) ≤ most_files → most_steps < n → Refusal words look (refused (codes "L9"))
  l2 : (fs : Files) (k : ℕ) → AsksFew words fs → StopsAt look 0 (inputs fs) k TooLarge → Refusal words look (refused (codes "L2"))
  l3 : (fs : Files) (k : ℕ) → AsksFew words fs → StopsAt look 0 (inputs fs) k TooMuch → Refusal words look (refused (codes "L3"))
  broken : (fs : Files) (texts : List (List ℕ)) (k : ℕ) (fault : Fault) {line : List ℕ} → HasRead words look fs texts → BreaksAt built_in_names 0 0 texts k fault
      → Tells fs texts k fault line → Refusal words look line
  declared : (fs : Files) (texts names : List (List ℕ)) (units : List SourceUnit) (b : Broken) → HasParsed words look fs texts names units → IsBroken (length fs.users) names units b
      → Refusal words look (broken_line fs texts units b)
  checked : (fs : Files) (texts names : List (List ℕ)) (units : List SourceUnit) (b : Broken) → (h : HasDeclared words look fs texts names units)
      → IsCheckRefusal h.declared.program h.declared.world b → Refusal words look (broken_line fs texts units b)
  s24 : HasNoMain words look → Refusal words look (refused (codes "S24"))
  against : (q : Request) (texts names : List (List ℕ)) (units : List SourceUnit) (a : Against) → HasAgainst words look q texts names units a
      → Refusal words look (against_line q.files texts units a)
  extract_against : (q : ExtractRequest) (texts names : List (List ℕ)) (units : List SourceUnit) (a : extract.Against)
      → HasExtractAgainst words look q texts names units a → Refusal words look (extractions.against_line q.files texts units a)
