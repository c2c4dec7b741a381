-- Labels of methods. A label stands for types' overloads, in which all methods of the label are.
use Rattle.std.specs.Prelude.{◌≡◌, ℕ, ◌<◌, ◌⊎◌, ◌↔◌, List, Option, Some, None, slice_get, length}
use Rattle.std.specs.List.{Contains}
use Rattle.class_world.specs.declared.world.World.{World}
use Rattle.method_groups.specs.declared.overloads.Overloads.{Overloads}
use Rattle.method_groups.specs.declared.labels.Row.{Row}
use Rattle.method_groups.specs.declared.labels.Labels.{Labels}
use Rattle.method_groups.specs.declared.differences.Difference.{Difference}
use Rattle.method_groups.specs.Beside.{AreBeside, AreAlike}

-- the label n stands for these overloads, among others: its row has them, or the row of a label that it leads to
pub data StandsFor (rows : List Row) : ℕ → Overloads → Type 0 where
  last : {n : ℕ} {row : Row} {x : Overloads} → 0 < n → slice_get rows n ≡ Some row → x ≡ row.last → StandsFor rows n x
  rest : {n : ℕ} {row : Row} {x : Overloads} → 0 < n → slice_get rows n ≡ Some row → StandsFor rows row.rest x → StandsFor rows n x

-- the label of the method m stands for these overloads
abbrev pub IsLabelled : Labels → ℕ → Overloads → Type 0
IsLabelled t m x = (n : ℕ) × (slice_get t.labels.items m ≡ Some n) × StandsFor t.rows.items n x

-- the labels of m and k both stand for some overloads
abbrev pub AreJoined : Labels → ℕ → ℕ → Type 0
AreJoined t m k = (x : Overloads) × IsLabelled t m x × IsLabelled t k x

-- each row but that of 0 leads to a lower label, and each method's label has a row
pub record IsFit (t : Labels) : Type 0 where
  pub latest : length t.latest.items ≡ length t.rows.items
  pub falls : (n : ℕ) (row : Row) → slice_get t.rows.items n ≡ Some row → 0 < n → row.rest < n
  pub within : (m n : ℕ) → slice_get t.labels.items m ≡ Some n → n < length t.rows.items

abbrev pub KeepsRows : List Row → List Row → Type 0
KeepsRows old new = (n : ℕ) (row : Row) → slice_get old n ≡ Some row → slice_get new n ≡ Some row

abbrev pub KeepsJoined : Labels → Labels → Type 0
KeepsJoined old new = (m k : ℕ) → AreJoined old m k → AreJoined new m k

-- the method k is among the overloads that the label n stands for
abbrev pub IsOverload : World → List Row → ℕ → ℕ → Type 0
IsOverload w rows n k = (x : Overloads) × StandsFor rows n x × AreBeside w x.member_of x.method k

-- the methods of the list are all of these, but those that are among the overloads of the difference
pub record IsDifference (w : World) (lists : List (List ℕ)) (methods : List ℕ) (d : Difference) : Type 0 where
  pub list : List ℕ
  pub at : slice_get lists d.place ≡ Some list
  pub only : (k : ℕ) → Contains list k → Contains methods k × (AreBeside w d.before.member_of d.before.method k → ⊥)
  pub all : (k : ℕ) → Contains methods k → Contains list k ⊎ AreBeside w d.before.member_of d.before.method k

-- the row adds these overloads: all of their methods, or the fewer of the difference, where its rest stands for the overloads that this is from
pub record Adds (rows : List Row) (x : Overloads) (fewer : Option Difference) (row : Row) : Type 0 where
  pub last : row.last ≡ x
  pub added : (p : ℕ) → row.added ≡ Some p → (d : Difference) × (fewer ≡ Some d) × (d.place ≡ p) × StandsFor rows row.rest d.before

-- the listed methods are of the overloads x, and with those of the overloads that the label r stands for they are all of them
pub record IsAddition (w : World) (rows : List Row) (r : ℕ) (x : Overloads) (list : List ℕ) : Type 0 where
  pub only : (k : ℕ) → Contains list k → AreBeside w x.member_of x.method k
  pub all : (k : ℕ) → AreBeside w x.member_of x.method k → Contains list k ⊎ IsOverload w rows r k

-- the list of a row that has one is enough for its last overloads
pub record AreAdditions (w : World) (rows : List Row) (lists : List (List ℕ)) : Type 0 where
  pub each : (n p : ℕ) (row : Row) → slice_get rows n ≡ Some row → row.added ≡ Some p → (list : List ℕ) × (slice_get lists p ≡ Some list) × IsAddition w rows row.rest row.last list

-- each method has a label, and is among the overloads that this stands for
pub record AreLabels (w : World) (t : Labels) : Type 0 where
  pub fit : IsFit t
  pub additions : AreAdditions w t.rows.items t.added.items
  pub size : length t.labels.items ≡ length w.methods
  pub sound : (m : ℕ) (x : Overloads) → IsLabelled t m x → AreBeside w x.member_of x.method m

-- and methods that are beside each other in some type are both among the overloads that their labels stand for
pub record AreAllLabels (w : World) (t : Labels) : Type 0 where
  pub labels : AreLabels w t
  pub all : (c m k : ℕ) → AreBeside w c m k → AreJoined t m k

-- the limit is above the numbers of all types and of all owners
pub record IsLimit (w : World) (limit : ℕ) : Type 0 where
  pub types : (c : ℕ) → c < length w.types → c < limit
  pub owners : (c m : ℕ) → AreBeside w c m m → c < limit

-- the method before, if there is one, has the name and the number of parameters of m
abbrev pub IsAgain : World → Option ℕ → ℕ → Type 0
IsAgain w None m = ⊥
IsAgain w (Some k) m = AreAlike w k m

-- the overloads that a label stands for are those of member methods
abbrev pub AreMembers : World → List Row → ℕ → Type 0
AreMembers w rows n = (x : Overloads) → StandsFor rows n x → AreBeside w x.member_of x.method x.method

-- the methods before with those of the label n are the methods after with those of the label r
abbrev pub Passes : World → List Row → List ℕ → ℕ → List ℕ → ℕ → Type 0
Passes w rows before n after r = (k : ℕ) → (Contains after k ⊎ IsOverload w rows r k) ↔ (Contains before k ⊎ IsOverload w rows n k)
