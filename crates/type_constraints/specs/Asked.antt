-- What the constraints are asked of: a program as its facts and ties tell it, a change, and where in a class the code stands.
use Rattle.std.specs.Prelude.{◌≡◌, ◌↔◌, IsTrue, IfOk, ℕ, ◌<◌, Bool, List, [], ◌++◌, length, Option, Result, OnOk}
use Rattle.std.specs.List.{Contains}
use Rattle.std.specs.List.Sorted.{IsStrictlyIncreasing}
use Rattle.java_tree.specs.declared.tree.Name.{Name}
use Rattle.class_world.specs.declared.world.World.{World}
use Rattle.class_world.specs.Inheritance.{IsGrouped}
use Rattle.class_world.specs.Overriding.{IsFamily, Overriding}
use Rattle.type_places.specs.declared.changes.Changes.{Changes}
use Rattle.type_facts.specs.Facts.{AreFacts, Facts}
use Rattle.type_constraints.specs.declared.place.Place.{Place}

-- which methods override which, and of a method its family and its group, by number
pub record Ties : Type 0 where
  pub overrides : (method other : ℕ) → Bool
  pub family : ℕ → List ℕ
  pub group : ℕ → List ℕ

abbrev pub Lists : (ℕ → Type 0) → List ℕ → Type 0
Lists P ks = ((k : ℕ) → Contains ks k ↔ P k) × IsStrictlyIncreasing ks

-- for a method of the world; for no other is any listed
abbrev pub ListsFor : World → ℕ → (ℕ → Type 0) → List ℕ → Type 0
ListsFor w m P ks = (m < length w.methods → Lists P ks) × ((m < length w.methods → ⊥) → ks ≡ [])

pub record AreTies (w : World) (t : Ties) : Type 0 where
  pub overrides : (m k : ℕ) → IsTrue (t.overrides m k) ↔ Overriding w m k
  pub family : (m : ℕ) → ListsFor w m (IsFamily w m) (t.family m)
  pub group : (m : ℕ) → ListsFor w m (IsGrouped w m) (t.group m)

-- `main` is the name main, where a file has it; the code is that of a method of the class, where it is that of one
pub record Asked : Type 0 where
  pub world : World
  pub facts : Facts
  pub ties : Ties
  pub change : Changes
  pub main : Option Name
  pub class : ℕ
  pub method : Option ℕ

-- ---- what is said of a call, whatever tells the program

abbrev pub asked : Place → Facts → Ties → Asked
asked p f t = record { world = p.q.world.now; facts = f; ties = t; change = p.change.now; main = p.main; class = p.class; method = p.method }

abbrev pub Tells : {A : Type 0} → Place → A → (Asked → A) → Type 0
Tells p r made = (f : Facts) → AreFacts p.q f → (t : Ties) → AreTies p.q.world.now t → r ≡ made (asked p f t)

-- nothing is said where memory ran out
abbrev pub Gives : {A E : Type 0} → Place → Result A E → (Asked → A) → Type 0
Gives p r made = (f : Facts) → AreFacts p.q f → (t : Ties) → AreTies p.q.world.now t → IfOk r (λ x. x ≡ made (asked p f t))

-- it puts these at the end of the list
abbrev pub Puts : {A E X : Type 0} → Place → Result A E → (old new : List X) → (Asked → List X) → Type 0
Puts p r old new made = (f : Facts) → AreFacts p.q f → (t : Ties) → AreTies p.q.world.now t → OnOk r (new ≡ old ++ made (asked p f t))
