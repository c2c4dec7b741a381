-- What is said of a question about a place of checked files: what stands against it, the new files of a change, or the types to which the place may go.
use Rattle.std.specs.Prelude.{◌≡◌, ℕ, List, [], map, length, take, Option, Some, None, slice_get, codes}
use Rattle.std.specs.String.{string_bytes}
use Rattle.java_tree.specs.Plain.{SourceUnit}
use Rattle.java_tree.specs.View.{unit_plain}
use Rattle.java_core.specs.Plain as e
use Rattle.java_core.specs.View.{program_plain}
use Rattle.class_world.specs.declared.world.World.{World}
use Rattle.built_in_types.specs.BuiltIns.{with_words}
use Rattle.command_words.specs.Names.{within}
use Rattle.decl_table.specs.Program.{Program}
use Rattle.type_facts.specs.Facts.{Facts}
use Rattle.unchecked_ops.specs.declared.program.Operation.{Operation}
use Rattle.checker.specs.Checking.{AreAllFacts}
use Rattle.type_constraints.specs.declared.unmet.Constraint.{Constraint}
use Rattle.type_constraints.specs.declared.unmet.Constraint.TheVariants as kind
use Rattle.changed_files.specs.declared.files.NewFiles.{NewFiles}
use Rattle.edit_writer.specs.declared.edits.Edit.{Edit}
use Rattle.generalize_declared.specs.declared.asked.CheckedSource.{CheckedSource}
use Rattle.generalize_declared.specs.declared.asked.Wish.{Wish}
use Rattle.generalize_declared.specs.declared.command.Against.{Against}
use Rattle.generalize_declared.specs.declared.command.Against.TheVariants as against
use Rattle.generalize_declared.specs.declared.command.Answer.{Answer}
use Rattle.generalize_declared.specs.declared.command.Answer.TheVariants as answer
use Rattle.generalize_declared.specs.declared.allowed.TypesAnswer.{TypesAnswer}
use Rattle.generalize_declared.specs.declared.allowed.TypesAnswer.TheVariants as types
use Rattle.generalize_declared.specs.Allowed as allowed
use Rattle.generalize_declared.specs.Plans as plans
use Rattle.report_text.specs.Report.{change_report, refused_place}
use Rattle.refactor_app.specs.Words.{Aim, Become, Types, Files, Request}
use Rattle.refactor_app.specs.Declarations.{node_name}
use Rattle.refactor_app.specs.Writes.{Writing}

-- ---- what is asked

-- checked files as the command takes them
pub record IsSource (s : CheckedSource) (fs : Files) (texts table : List (List ℕ)) (units : List SourceUnit) (core : e.Program) (operations : List Operation) : Type 0 where
  pub has_texts : s.texts.now ≡ texts
  pub has_units : map unit_plain s.units.now ≡ units
  pub has_users : s.users ≡ length fs.users
  pub has_names : s.names.now ≡ table
  pub has_core : program_plain s.core.now ≡ core
  pub has_operations : s.operations.now ≡ operations

-- the place in one of the user's files
pub record IsWish (q : Request) (x : Wish) : Type 0 where
  pub file : slice_get q.files.users x.file ≡ Some q.file
  pub line : x.line ≡ q.line
  pub col : x.col ≡ q.col

-- ---- what is said

pub data Said : Type 0 where
  Stands : Against → Said
  Changed : NewFiles → Said
  Listed : (types : List (List ℕ)) → Said

abbrev pub Says : (ℕ → Facts) → CheckedSource → Wish → Aim → Said → Type 0
Says fs s x (Become out ty) (Stands a) = plans.Stands fs s x ty a
Says fs s x (Become out ty) (Changed new) = plans.IsChanged fs s x ty new
Says fs s x (Become out ty) (Listed words) = ⊥
Says fs s x Types (Stands a) = allowed.StandsFirst (fs 0) s x a
Says fs s x Types (Changed new) = ⊥
Says fs s x Types (Listed words) = allowed.HasTypes (fs 0) s x words

-- as the commands answer
abbrev pub said_of : Answer → Said
said_of (answer.Against a) = Stands a
said_of (answer.Changed new) = Changed new

abbrev pub types_said : TypesAnswer → Said
types_said (types.Against a) = Stands a
types_said (types.Types words) = Listed (map string_bytes words)

-- what is said of files that make this program with this world, whatever is asked of them
pub record IsAnsweredBy (q : Request) (texts table : List (List ℕ)) (units : List SourceUnit) (p : Program) (w : World) (core : e.Program) (operations : List Operation)
    (a : Said) : Type 0 where
  pub source : CheckedSource
  pub is_source : IsSource source q.files texts table units core operations
  pub wish : Wish
  pub is_wish : IsWish q wish
  pub says : (fs : ℕ → Facts) → AreAllFacts p w fs → Says fs source wish q.aim a

-- of files with these names, behind which the table has those that the built-in types need
abbrev pub IsAnswered : Request → (texts names : List (List ℕ)) → List SourceUnit → Program → World → e.Program → List Operation → Said → Type 0
IsAnswered q texts names units = IsAnsweredBy q texts (with_words names) units

-- ---- what is put

abbrev pub kind_name : Constraint → List ℕ
kind_name kind.Assign = codes "ASSIGN"
kind_name kind.Member = codes "MEMBER"
kind_name kind.Field = codes "FIELD"
kind_name kind.Override = codes "OVERRIDE"
kind_name kind.Overload = codes "OVERLOAD"
kind_name kind.Result = codes "RESULT"
kind_name kind.Throws = codes "THROWS"
kind_name kind.Arm = codes "ARM"

-- the rule and the node that are named
abbrev pub rule_against : Against → List ℕ
rule_against (against.Unchecked n) = codes "S21"
rule_against against.NoPlace = codes "V1"
rule_against (against.NoTarget n) = codes "V2"
rule_against (against.NotAbove n) = codes "V3"
rule_against (against.Unmet u) = kind_name u.kind
rule_against (against.Kept n) = codes "KEEP"

abbrev pub node_against : Against → Option ℕ
node_against (against.Unchecked n) = Some n
node_against against.NoPlace = None
node_against (against.NoTarget n) = Some n
node_against (against.NotAbove n) = Some n
node_against (against.Unmet u) = Some u.node
node_against (against.Kept n) = Some n

abbrev pub against_line : Files → (texts : List (List ℕ)) → List SourceUnit → Against → List ℕ
against_line fs texts units a = refused_place (rule_against a) (node_name fs texts units (node_against a))

-- ---- what is written

abbrev pub out_of : Aim → List ℕ
out_of (Become out ty) = out
out_of Types = []

-- OUT/FILE for each of the user's files
abbrev pub out_names : Request → List (List ℕ)
out_names q = map (within (out_of q.aim)) q.files.users

-- their new texts
abbrev pub user_texts : Request → NewFiles → List (List ℕ)
user_texts q new = take (length q.files.users) new.texts

-- and their edits
abbrev pub user_edits : Request → NewFiles → List (List Edit)
user_edits q new = take (length q.files.users) new.edits

abbrev pub change_writing : Request → NewFiles → Writing
change_writing q new = record { names = out_names q; texts = user_texts q new; report = change_report q.files.users (user_edits q new) }
