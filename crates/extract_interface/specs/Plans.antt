-- What stands against the extraction of an interface, or its new files.
use Rattle.std.specs.Prelude.{◌≡◌, ℕ, ◌<◌, ◌+◌, ◌==◌, Bool, true, false, if◌then◌else◌, List, [], ◌∷◌, ◌++◌, Contains, codes, length, map, take, drop, Option, Some, None, slice_get}
use Rattle.std.specs.String.{string_bytes}
use Rattle.java_tree.specs.declared.tree.Span.{Span}
use Rattle.class_world.specs.declared.world.World.{World}
use Rattle.class_world.specs.declared.world.TypeInfo.{TypeInfo}
use Rattle.java_core.specs.declared.program.CoreClass.{CoreClass}
use Rattle.java_core.specs.declared.program.CoreFile.{CoreFile}
use Rattle.java_core.specs.declared.written.CoreType.{CoreType, out-CoreType}
use Rattle.java_core.specs.View.{class_plain, file_plain, program_plain}
use Rattle.member_table.specs.declared.members.Members.{Members}
use Rattle.running_code.specs.declared.running.Running.{Running}
use Rattle.running_code.specs.Running.{IsMadeOf}
use Rattle.edit_writer.specs.declared.edits.Edit.{Edit}
use Rattle.changed_files.specs.FileEdits.{head_edit, put_at}
use Rattle.changed_files.specs.declared.files.NewFiles.{NewFiles}
use Rattle.changed_files.specs.NewFiles.{IsMade}
use Rattle.kept_behaviour.specs.declared.maps.Inserted.{Inserted}
use Rattle.kept_behaviour.specs.Kept.{KeepsWith}
use Rattle.kept_places.specs.declared.links.Kept.{Kept}
use Rattle.kept_places.specs.declared.links.Link.{Link}
use Rattle.kept_places.specs.Kept.{AreKept}
use Rattle.type_facts.specs.Facts.{IsReady}
use Rattle.type_facts.specs.declared.questions.Questions.{Questions}
use Rattle.extract_constraints.specs.Program.{links_of}
use Rattle.extract_constraints.specs.Told.{AreTold, Told}
use Rattle.class_places.specs.declared.places.ClassPlace.{ClassPlace}
use Rattle.class_places.specs.Places.{places_in}
use Rattle.interface_text.specs.declared.extraction.Extraction.{Extraction}
use Rattle.interface_text.specs.Text.{interface_text}
use Rattle.interface_text.specs.Types.{is_among}
use Rattle.generalize_declared.specs.declared.asked.CheckedSource.{CheckedSource}
use Rattle.generalize_declared.specs.Plans.{IsUnclean}
use Rattle.extract_interface.specs.declared.asked.Wish.{Wish}
use Rattle.extract_interface.specs.declared.command.Against.{Against}
use Rattle.extract_interface.specs.declared.command.Against.TheVariants as against
use Rattle.extract_interface.specs.declared.command.Answer.{Answer}
use Rattle.extract_interface.specs.declared.command.Answer.TheVariants as answer
use Rattle.extract_interface.specs.declared.command.Extracted.{Extracted}
use Rattle.extract_interface.specs.declared.plan.Plan.{Plan}
use Rattle.extract_interface.specs.Asked.{AreWanted, HasAll, IsDeclared, IsTaken, IsUserClass, all_public, created_name, none_static}

abbrev pub words_of : Wish → List (List ℕ)
words_of x = map string_bytes x.methods.now

abbrev pub files_of : Wish → List (List ℕ)
files_of x = map string_bytes x.files.now

-- ---- the edits

-- the heads of the places that are not kept
abbrev pub changed_heads : (kept : List ℕ) → List ClassPlace → List Span
changed_heads ks [] = []
changed_heads ks (p ∷ ps) = if is_among ks p.node then changed_heads ks ps else p.head ∷ changed_heads ks ps

abbrev pub heads_in : (class : ℕ) → (kept : List ℕ) → Option CoreFile → List Span
heads_in c ks None = []
heads_in c ks (Some file) = changed_heads ks (places_in c (file_plain file))

abbrev pub last_of : List CoreType → Option CoreType
last_of [] = None
last_of (t ∷ []) = Some t
last_of (t ∷ u ∷ us) = last_of (u ∷ us)

abbrev pub end_of : Option CoreType → (other : ℕ) → ℕ
end_of None other = other
end_of (Some t) other = (out-CoreType t).node.span.to

-- behind the last interface, or else behind the superclass or the name
abbrev pub added_edit : CoreClass → (word : List ℕ) → (last : Option CoreType) → Edit
added_edit c word (Some t) = put_at (out-CoreType t).node.span.to (codes ", " ++ word)
added_edit c word None = put_at (end_of (last_of c.extends) c.name_end) (codes " implements " ++ word)

abbrev pub implements_edit : CoreClass → (word : List ℕ) → Edit
implements_edit c word = added_edit c word (last_of c.implements)

-- the heads, and in the file of the class the new interface among them
abbrev pub AreFileEdits : (word : List ℕ) → (here : Bool) → CoreClass → List Span → List Edit → Type 0
AreFileEdits word false c heads es = es ≡ map (head_edit word) heads
AreFileEdits word true c heads es =
    (before : List Span) × (behind : List Span) × (heads ≡ before ++ behind) × (es ≡ map (head_edit word) before ++ (implements_edit c word ∷ map (head_edit word) behind))

-- those of a file by its number, where there are such
abbrev pub HasEdits : (word : List ℕ) → Plan → (kept : List ℕ) → (i : ℕ) → Option CoreFile → Option (List Edit) → Type 0
HasEdits word p ks i file None = ⊥
HasEdits word p ks i file (Some es) = AreFileEdits word (i == p.declared.file) p.declared.core.now (heads_in p.class.number ks file) es

abbrev pub place_of : Kept → ℕ
place_of k = k.place

-- ---- the new program

-- the created file stands behind those of the user
abbrev pub with_created : (users : ℕ) → (created : List ℕ) → (texts : List (List ℕ)) → List (List ℕ)
with_created n t texts = take n texts ++ (t ∷ drop n texts)

-- The new files with the created one are a program that breaks no rule and behaves as the old one in each run in which nothing goes wrong.
pub record KeepsCreated (w : World) (s : CheckedSource) (created : List ℕ) (texts : List (List ℕ)) : Type 0 where
  pub old : Running
  pub members : Members
  pub is_old : IsMadeOf old w s.names.now s.core.now members
  pub inserted : Inserted
  pub keeps : KeepsWith old (with_created s.users created texts) (s.users + 1) inserted

module _ (w : World) (s : CheckedSource) (x : Wish) where
  -- ---- what is asked for

  -- no unchecked operation, a class, and methods of each name
  pub record IsFound (c : ℕ) (i : TypeInfo) : Type 0 where
    pub clean : s.operations.now ≡ []
    pub class : IsUserClass w s.names.now x.class.now c i
    pub all : HasAll w s.names.now i.methods (words_of x)

  -- a name that is free, and methods that are public and not static
  pub record IsOpen (c : ℕ) (i : TypeInfo) (ms : List ℕ) : Type 0 where
    pub found : IsFound c i
    pub free : IsTaken w s x.name.now → ⊥
    pub methods : AreWanted w s.names.now (words_of x) i.methods ms
    pub public : all_public w ms ≡ true
    pub instance : none_static w ms ≡ true

  -- the new file of a class whose declaration is in a file
  pub record IsBeside (c file : ℕ) (core : CoreClass) (created : List ℕ) : Type 0 where
    pub declared : IsDeclared s c file core
    pub name : List ℕ
    pub there : slice_get (files_of x) file ≡ Some name
    pub beside : created ≡ created_name name x.name.now

  -- ---- the plan

  -- a plan by which no file has the new file's name
  pub record IsPlanned (p : Plan) (created : List ℕ) : Type 0 where
    pub opened : IsOpen p.class.number p.class.info.now p.methods.now
    pub beside : IsBeside p.class.number p.declared.file p.declared.core.now created
    pub fresh : Contains (files_of x) created → ⊥

  -- The links are the constraints on the places of the class in the user's files, whatever tells the program.
  pub record AreLinks (p : Plan) (links : List Link) : Type 0 where
    pub questions : Questions
    pub world : questions.world.now ≡ w
    pub ready : IsReady questions
    pub are : (k : Told) → AreTold questions k → links ≡ links_of k w p.class.number p.methods.now s.users (program_plain s.core.now)

  -- The new files: the places change that are not kept, and the kept ones are those that have a chain of links to a need. The edits are those of the places and of the
  -- new interface.
  pub record AreChanged (p : Plan) (kept : List Kept) (new : NewFiles) : Type 0 where
    pub links : List Link
    pub are_links : AreLinks p links
    pub are_kept : AreKept links kept
    pub edits : List (List Edit)
    pub have : (i : ℕ) → i < length s.units.now → HasEdits x.name.now p (map place_of kept) i (slice_get s.core.now.files i) (slice_get edits i)
    pub made : IsMade s.texts.now edits (Some new)

  -- what the new interface is written from
  pub record IsExtraction (p : Plan) (kept : List Kept) (q : Extraction) : Type 0 where
    pub world : q.world.now ≡ w
    pub names : q.names.now ≡ s.names.now
    pub class : q.class ≡ p.class.number
    pub methods : q.methods.now ≡ p.methods.now
    pub new_name : q.new_name.now ≡ x.name.now
    pub kept_places : q.kept.now ≡ map place_of kept

  pub record IsWritten (p : Plan) (kept : List Kept) (text : List ℕ) : Type 0 where
    pub extraction : Extraction
    pub is_extraction : IsExtraction p kept extraction
    pub is_text : text ≡ interface_text extraction (class_plain p.declared.core.now)

  -- the new files and the created one, which keep the program's behaviour
  pub record IsExtracted (e : Extracted) : Type 0 where
    pub plan : Plan
    pub planned : IsPlanned plan (string_bytes e.name)
    pub changed : AreChanged plan e.kept e.new
    pub written : IsWritten plan e.kept e.text
    pub keeps : KeepsCreated w s e.text e.new.texts

  -- ---- what stands against it

  abbrev pub Stands : Against → Type 0
  Stands (against.Unchecked n) = IsUnclean s n
  Stands against.NoClass = (s.operations.now ≡ []) × ((c : ℕ) (i : TypeInfo) → IsUserClass w s.names.now x.class.now c i → ⊥)
  Stands (against.NoMethod n) =
      (c : ℕ) × (i : TypeInfo) × (s.operations.now ≡ []) × IsUserClass w s.names.now x.class.now c i × (HasAll w s.names.now i.methods (words_of x) → ⊥) × (n ≡ i.node)
  Stands (against.NameTaken n) = (c : ℕ) × (i : TypeInfo) × IsFound c i × IsTaken w s x.name.now × (n ≡ i.node)
  Stands (against.NotPublic n) =
      (c : ℕ) × (i : TypeInfo) × IsFound c i × (IsTaken w s x.name.now → ⊥)
      × ((ms : List ℕ) × AreWanted w s.names.now (words_of x) i.methods ms × (all_public w ms ≡ false)) × (n ≡ i.node)
  Stands (against.Static n) =
      (c : ℕ) × (i : TypeInfo) × IsFound c i × (IsTaken w s x.name.now → ⊥)
      × ((ms : List ℕ) × AreWanted w s.names.now (words_of x) i.methods ms × (all_public w ms ≡ true) × (none_static w ms ≡ false)) × (n ≡ i.node)
  Stands (against.FileTaken n) =
      (c : ℕ) × (i : TypeInfo) × (ms : List ℕ) × IsOpen c i ms
      × ((file : ℕ) × (core : CoreClass) × (name : List ℕ) × IsBeside c file core name × Contains (files_of x) name) × (n ≡ i.node)
  Stands (against.Kept n) = (c : ℕ) × (i : TypeInfo) × (ms : List ℕ) × IsOpen c i ms × (n ≡ i.node)

  abbrev pub Answers : Answer → Type 0
  Answers (answer.Against a) = Stands a
  Answers (answer.Extracted e) = IsExtracted e
