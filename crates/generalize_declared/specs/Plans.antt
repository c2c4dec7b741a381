-- What stands against a change of a declared type, or its new files.
use Rattle.std.specs.Prelude.{◌≡◌, ◌≢◌, ℕ, ◌<◌, Bool, true, false, ◌==◌, List, [], ◌∷◌, ◌++◌, length, map, Option, Some, None, slice_get, unwrap_or, codes}
use Rattle.java_tree.specs.declared.tree.Name.{Name}
use Rattle.java_tree.specs.declared.tree.Span.{Span}
use Rattle.java_tree.specs.declared.tree.Token.{Token}
use Rattle.java_tree.specs.View.{unit_plain}
use Rattle.class_world.specs.declared.world.World.{World}
use Rattle.class_world.specs.declared.world.TypeInfo.{TypeInfo}
use Rattle.java_core.specs.declared.program.CoreFile.{CoreFile}
use Rattle.java_core.specs.View.{file_plain, program_plain}
use Rattle.member_table.specs.declared.members.Members.{Members}
use Rattle.type_facts.specs.Facts.{Facts}
use Rattle.type_facts.specs.declared.questions.Questions.{Questions}
use Rattle.unchecked_ops.specs.declared.program.Operation.{Operation}
use Rattle.unchecked_ops.specs.Programs.{AreFileFacts}
use Rattle.running_code.specs.declared.running.Running.{Running}
use Rattle.running_code.specs.Running.{IsMadeOf}
use Rattle.type_places.specs.declared.changes.Changes.{Changes}
use Rattle.type_places.specs.declared.places.TypePlace.{TypePlace}
use Rattle.type_places.specs.Changing.{IsChange}
use Rattle.type_places.specs.Heads.{heads_in}
use Rattle.type_constraints.specs.declared.unmet.Unmet.{Unmet}
use Rattle.type_constraints.specs.Asked.{AreTies, Ties}
use Rattle.type_constraints.specs.Constraints.{first_unmet}
use Rattle.changed_files.specs.declared.files.NewFiles.{NewFiles}
use Rattle.changed_files.specs.NewFiles.{AreNew, AreTokens}
use Rattle.kept_behaviour.specs.Kept.{Keeps}
use Rattle.generalize_declared.specs.declared.asked.CheckedSource.{CheckedSource}
use Rattle.generalize_declared.specs.declared.asked.Wish.{Wish}
use Rattle.generalize_declared.specs.declared.command.Against.{Against}
use Rattle.generalize_declared.specs.declared.command.Against.TheVariants as against
use Rattle.generalize_declared.specs.declared.command.Answer.{Answer}
use Rattle.generalize_declared.specs.declared.command.Answer.TheVariants as answer
use Rattle.generalize_declared.specs.Asked.{HasPlace, IsTarget, is_above}

-- ---- names

abbrev pub text_of : (names : List (List ℕ)) → Name → List ℕ
text_of names x = unwrap_or (slice_get names x.0) []

-- the texts of a path, each with a dot behind
abbrev pub dotted : (names : List (List ℕ)) → List Name → List ℕ
dotted names [] = []
dotted names (x ∷ xs) = text_of names x ++ (46 ∷ dotted names xs)

-- the name of a type with its package's
abbrev pub full_name : (names : List (List ℕ)) → Option TypeInfo → (word : List ℕ) → List ℕ
full_name names None word = word
full_name names (Some i) word = dotted names i.«package» ++ word

-- ---- constraints

-- the number of the word main, where it has one
abbrev pub IsMain : (names : List (List ℕ)) → Option Name → Type 0
IsMain names (Some n) = slice_get names n.0 ≡ Some (codes "main")
IsMain names None = (n : ℕ) → slice_get names n ≢ Some (codes "main")

-- of a change, by facts of the first file: the first constraint that is not met, or none where each is met
pub record IsUnmet (f : Facts) (s : CheckedSource) (c : Changes) (u : Option Unmet) : Type 0 where
  pub main : Option Name
  pub is_main : IsMain s.names.now main
  pub first : (t : Ties) → AreTies f.world t → u ≡ first_unmet f t c main s.users (program_plain s.core.now)

-- ---- files

-- facts of each file
abbrev pub AreSourceFacts : Questions → CheckedSource → (ℕ → Facts) → Type 0
AreSourceFacts q s fs = AreFileFacts q (length s.units.now) fs

abbrev is_same : Option ℕ → ℕ → Bool
is_same None k = false
is_same (Some t) k = t == k

-- the name means the type in a file
abbrev pub is_seen : Facts → Name → (target : ℕ) → Bool
is_seen f x k = is_same (f.mean x) k

-- the heads that change in a file, whose number tells whether the place is in it
abbrev pub file_heads : Changes → TypePlace → (here : Bool) → Option CoreFile → List Span
file_heads c p here None = []
file_heads c p here (Some file) = heads_in c p here (file_plain file)

-- ---- what stands against any change

-- an operation that no check covers
abbrev pub IsUnclean : CheckedSource → (node : ℕ) → Type 0
IsUnclean s n = (o : Operation) × (os : List Operation) × (s.operations.now ≡ o ∷ os) × (o.node.id ≡ n)

abbrev pub HasNoPlace : World → CheckedSource → Wish → Type 0
HasNoPlace w s x = (s.operations.now ≡ []) × ((p : TypePlace) → HasPlace w s x p → ⊥)

-- the change of a place to a type, and the first constraint that it does not meet
pub record IsTried (f : Facts) (s : CheckedSource) (p : TypePlace) (k : ℕ) (c : Changes) (u : Option Unmet) : Type 0 where
  pub changes : IsChange f.world p.old p.declared k c
  pub unmet : IsUnmet f s c u

module _ (fs : ℕ → Facts) (s : CheckedSource) (x : Wish) (word : List ℕ) where
  -- The edits of the new files: in each file the heads that change, and an import where it does not see the type.
  pub record HasEdits (p : TypePlace) (k : ℕ) (c : Changes) (new : NewFiles) : Type 0 where
    pub name : Name
    pub named : slice_get s.names.now name.0 ≡ Some word
    pub sees : List Bool
    pub heads : List (List Span)
    pub sees_count : length sees ≡ length s.units.now
    pub heads_count : length heads ≡ length s.units.now
    pub seen : (i : ℕ) → i < length s.units.now → slice_get sees i ≡ Some (is_seen (fs i) name k)
    pub changed : (i : ℕ) → i < length s.units.now → slice_get heads i ≡ Some (file_heads c p (i == x.file) (slice_get s.core.now.files i))
    pub edits : (tokens : List (List Token)) → AreTokens s.texts.now tokens
        → AreNew s.texts.now tokens (map unit_plain s.units.now) sees heads word (full_name s.names.now (slice_get (fs 0).world.types k) word) (Some new)

  -- ---- the plan

  -- no unchecked operation, a place, and another type above its own
  pub record IsAsked (p : TypePlace) (k : ℕ) : Type 0 where
    pub clean : s.operations.now ≡ []
    pub place : HasPlace (fs 0).world s x p
    pub target : IsTarget (fs 0).world s x.file word k
    pub above : is_above (fs 0) k p.old ≡ true

  -- and each constraint is met
  abbrev pub IsMet : TypePlace → (k : ℕ) → Changes → Type 0
  IsMet p k c = IsAsked p k × IsTried (fs 0) s p k c None

  -- what stands against it
  abbrev pub Stands : Against → Type 0
  Stands (against.Unchecked n) = IsUnclean s n
  Stands against.NoPlace = HasNoPlace (fs 0).world s x
  Stands (against.NoTarget n) =
      (p : TypePlace) × (s.operations.now ≡ []) × HasPlace (fs 0).world s x p × (n ≡ p.node) × ((k : ℕ) → IsTarget (fs 0).world s x.file word k → ⊥)
  Stands (against.NotAbove n) =
      (p : TypePlace) × (k : ℕ) × (s.operations.now ≡ []) × HasPlace (fs 0).world s x p × (n ≡ p.node) × IsTarget (fs 0).world s x.file word k × (is_above (fs 0) k p.old ≡ false)
  Stands (against.Unmet u) = (p : TypePlace) × (k : ℕ) × (c : Changes) × IsAsked p k × IsTried (fs 0) s p k c (Some u)
  Stands (against.Kept n) = (p : TypePlace) × (k : ℕ) × (c : Changes) × IsMet p k c × (n ≡ p.node)

  -- The new files: all constraints are met, the edits are those of the heads that change and of the imports that are then needed, and the new files are a program that
  -- breaks no rule and behaves as the old one.
  pub record IsChanged (new : NewFiles) : Type 0 where
    pub place : TypePlace
    pub target : ℕ
    pub changes : Changes
    pub met : IsMet place target changes
    pub edits : HasEdits place target changes new
    pub old : Running
    pub members : Members
    pub made : IsMadeOf old (fs 0).world s.names.now s.core.now members
    pub keeps : Keeps old new.texts s.users

  abbrev pub Answers : Answer → Type 0
  Answers (answer.Against a) = Stands a
  Answers (answer.Changed new) = IsChanged new
