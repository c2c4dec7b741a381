-- What is said of an extraction from checked files: what stands against it, or the new files, the created one and the places that are kept.
use Rattle.std.specs.Prelude.{◌≡◌, ℕ, List, [], ◌∷◌, ◌++◌, map, length, take, Option, Some, None, codes}
use Rattle.std.specs.String.{string_bytes}
use Rattle.java_tree.specs.Plain.{SourceUnit}
use Rattle.java_core.specs.Plain as e
use Rattle.class_world.specs.declared.world.World.{World}
use Rattle.built_in_types.specs.BuiltIns.{with_words}
use Rattle.command_words.specs.Names.{within}
use Rattle.unchecked_ops.specs.declared.program.Operation.{Operation}
use Rattle.edit_writer.specs.declared.edits.Edit.{Edit}
use Rattle.kept_places.specs.declared.links.Kept.{Kept}
use Rattle.kept_places.specs.declared.links.Kind.{Kind}
use Rattle.kept_places.specs.declared.links.Kind.TheVariants as kind
use Rattle.generalize_declared.specs.declared.asked.CheckedSource.{CheckedSource}
use Rattle.extract_interface.specs.declared.asked.Wish.{Wish}
use Rattle.extract_interface.specs.declared.command.Against.{Against}
use Rattle.extract_interface.specs.declared.command.Against.TheVariants as against
use Rattle.extract_interface.specs.declared.command.Answer.{Answer}
use Rattle.extract_interface.specs.declared.command.Extracted.{Extracted}
use Rattle.extract_interface.specs.Plans.{Answers}
use Rattle.report_text.specs.Report.{KeptParts, extract_report, refused_place}
use Rattle.refactor_app.specs.Words.{ExtractRequest, Files, inputs}
use Rattle.refactor_app.specs.Declarations.{node_name}
use Rattle.refactor_app.specs.Writes.{Writing}
use Rattle.refactor_app.specs.Changes.{IsSource}

-- ---- what is asked

-- the class, the new name, the methods, and all files as the command takes them
pub record IsWish (q : ExtractRequest) (x : Wish) : Type 0 where
  pub class : x.class.now ≡ q.class
  pub name : x.name.now ≡ q.name
  pub methods : map string_bytes x.methods.now ≡ q.methods
  pub files : map string_bytes x.files.now ≡ inputs q.files

-- ---- what is said

-- what is said of files that make a program with this world
pub record IsAnsweredBy (q : ExtractRequest) (texts table : List (List ℕ)) (units : List SourceUnit) (w : World) (core : e.Program) (operations : List Operation)
    (a : Answer) : Type 0 where
  pub source : CheckedSource
  pub is_source : IsSource source q.files texts table units core operations
  pub wish : Wish
  pub is_wish : IsWish q wish
  pub says : Answers w source wish a

-- of files with these names, behind which the table has those that the built-in types need
abbrev pub IsAnswered : ExtractRequest → (texts names : List (List ℕ)) → List SourceUnit → World → e.Program → List Operation → Answer → Type 0
IsAnswered q texts names units = IsAnsweredBy q texts (with_words names) units

-- ---- what is put

-- the rule and the node that are named
abbrev pub rule_against : Against → List ℕ
rule_against (against.Unchecked n) = codes "S21"
rule_against against.NoClass = codes "E1"
rule_against (against.NameTaken n) = codes "E2"
rule_against (against.NoMethod n) = codes "E3"
rule_against (against.NotPublic n) = codes "E4"
rule_against (against.Static n) = codes "E5"
rule_against (against.FileTaken n) = codes "E6"
rule_against (against.Kept n) = codes "KEEP"

abbrev pub node_against : Against → Option ℕ
node_against (against.Unchecked n) = Some n
node_against against.NoClass = None
node_against (against.NameTaken n) = n
node_against (against.NoMethod n) = n
node_against (against.NotPublic n) = n
node_against (against.Static n) = n
node_against (against.FileTaken n) = n
node_against (against.Kept n) = n

abbrev pub against_line : Files → (texts : List (List ℕ)) → List SourceUnit → Against → List ℕ
against_line fs texts units a = refused_place (rule_against a) (node_name fs texts units (node_against a))

abbrev pub kind_name : Kind → List ℕ
kind_name kind.Assign = codes "ASSIGN"
kind_name kind.Member = codes "MEMBER"
kind_name kind.Field = codes "FIELD"
kind_name kind.Override = codes "OVERRIDE"
kind_name kind.Overload = codes "OVERLOAD"
kind_name kind.Result = codes "RESULT"
kind_name kind.Throws = codes "THROWS"
kind_name kind.Arm = codes "ARM"
kind_name kind.Argument = codes "ARGUMENT"

abbrev pub next_name : Files → (texts : List (List ℕ)) → List SourceUnit → Option ℕ → Option (List ℕ)
next_name fs texts units None = None
next_name fs texts units (Some n) = Some (node_name fs texts units (Some n))

-- what the report says of a kept place
abbrev pub kept_told : Files → (texts : List (List ℕ)) → List SourceUnit → Kept → KeptParts
kept_told fs texts units k = record {
  place = node_name fs texts units (Some k.place);
  kind = kind_name k.kind;
  node = node_name fs texts units (Some k.node);
  next = next_name fs texts units k.next;
}

-- ---- what is written

-- OUT/FILE for each of the user's files, and behind them that of the created file
abbrev pub out_names : ExtractRequest → Extracted → List (List ℕ)
out_names q made = map (within q.out) q.files.users ++ (within q.out (string_bytes made.name) ∷ [])

-- the new texts of the user's files, and the created text
abbrev pub out_texts : ExtractRequest → Extracted → List (List ℕ)
out_texts q made = take (length q.files.users) made.new.texts ++ (made.text ∷ [])

-- the edits of the user's files
abbrev pub user_edits : ExtractRequest → Extracted → List (List Edit)
user_edits q made = take (length q.files.users) made.new.edits

-- the edits, the created file with its size, and the places that are kept
abbrev pub report_of : ExtractRequest → (texts : List (List ℕ)) → List SourceUnit → Extracted → List ℕ
report_of q texts units made =
    extract_report q.files.users (user_edits q made) (string_bytes made.name) (length made.text) (map (kept_told q.files texts units) made.kept)

abbrev pub extract_writing : ExtractRequest → (texts : List (List ℕ)) → List SourceUnit → Extracted → Writing
extract_writing q texts units made = record { names = out_names q made; texts = out_texts q made; report = report_of q texts units made }
