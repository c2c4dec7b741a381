-- What the table has, and what the steps of a look-up answer.
use Rattle.std.specs.Prelude.{◌≡◌, ℕ, ◌<◌, ◌⊎◌, List, Option, Some, None, length}
use Rattle.std.specs.List.{Contains}
use Rattle.class_world.specs.declared.world.World.{World}
use Rattle.class_world.specs.Inheritance.{IsMemberMethod}
use Rattle.class_world.specs.Overriding.{Overriding, HaveOneParameterList, OverridesForOn, Answers, IsAnswer}
use Rattle.overrides.specs.Families.{AreLabels}
use Rattle.found_methods.specs.declared.FoundMethods.{FoundMethods}
use Rattle.found_methods.specs.Own.{HoldsGroups, LowestIs}
use Rattle.found_methods.specs.Firsts.{HoldsFirsts, Rises}
use Rattle.found_methods.specs.Callees.{AreCallees}
use Rattle.found_methods.specs.Supers.{AreSuperclasses, AreRanked}

-- The methods of one label are one family. For each class and label the table has the first method that is met upwards, with the others that its class declares; and where
-- to look further.
pub record HoldsFound (w : World) (t : FoundMethods) : Type 0 where
  pub callees : AreCallees w t.callees.items
  pub labels : AreLabels w t.labels.items
  pub groups : HoldsGroups w t.labels.items (length w.methods) t.groups.items
  pub firsts : (c : ℕ) → c < length w.types → HoldsFirsts w t.labels.items t.firsts c
  pub supers : AreSuperclasses w t.supers.items
  pub ranked : AreRanked w t.most

-- members of the type o, among them all that override m
abbrev pub HaveOverriders : World → ℕ → ℕ → List ℕ → Type 0
HaveOverriders w o m ts = ((t : ℕ) → Contains ts t → IsMemberMethod w o t) × ((t : ℕ) → IsMemberMethod w o t → Overriding w t m → Contains ts t)

-- On an object of the class o, k is m, overrides it, has its parameter types, or overrides a member of o that overrides it.
abbrev pub IsInPlaceOf : World → ℕ → ℕ → ℕ → Type 0
IsInPlaceOf w o k m = (k ≡ m) ⊎ Overriding w k m ⊎ HaveOneParameterList w k m ⊎ OverridesForOn w o k m

-- for an object of the class o, the first answer that the class c itself declares
abbrev pub OwnAnswerIs : World → ℕ → ℕ → ℕ → Option ℕ → Type 0
OwnAnswerIs w o m c None = (k : ℕ) → Answers w o m c k → ⊥
OwnAnswerIs w o m c (Some k) = Answers w o m c k × ((j : ℕ) → j < k → Answers w o m c j → ⊥)

-- the answer from the class c upwards
abbrev pub AnswerIs : World → ℕ → ℕ → ℕ → Option ℕ → Type 0
AnswerIs w o m c None = (k : ℕ) → IsAnswer w o m c k → ⊥
AnswerIs w o m c (Some k) = IsAnswer w o m c k

-- the class up to which the search for a label came, and the first method that it met there
abbrev pub StopsAt : World → List ℕ → (l c : ℕ) → Option ℕ → Option ℕ → Type 0
StopsAt w labels l c first None = ⊥
StopsAt w labels l c first (Some o) = Rises w labels l c o × LowestIs w labels l o first
