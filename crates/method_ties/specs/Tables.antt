-- Lists that were numbered.
use Rattle.std.specs.Prelude.{◌≡◌, ◌↔◌, ℕ, Bool, List, Some, cond}
use Rattle.std.specs.List.{Contains}
use Rattle.std.specs.HashMap.{get}
use Rattle.java_tree.specs.declared.tree.Name.{Name}
use Rattle.class_world.specs.declared.world.World.{World}
use Rattle.class_world.specs.Inheritance.{IsMethodNamed}
use Rattle.member_methods.specs.Methods.{IsCalled, IsInheritable}
use Rattle.numbered_methods.specs.declared.NumberedMethods.{NumberedMethods}
use Rattle.numbered_methods.specs.Alike.{IsNumbered}
use Rattle.method_ties.specs.contracts.tables.KeyPartialEq.TheImpl.{eq-value}
use Rattle.method_ties.specs.declared.tables.Key.{Key}
use Rattle.method_ties.specs.declared.tables.Tables.{Tables}
use Rattle.method_ties.specs.Sides.{IsLower}

-- what `==` answers
abbrev pub same_key : Key → Key → Bool
same_key = eq-value.it

abbrev pub named_by : Key → Name
named_by q = record { 0 = q.name }

-- a member of the key's type, with its name and number of parameters
abbrev pub IsKeyed : World → Key → ℕ → Type 0
IsKeyed w q = IsMethodNamed w q.owner (named_by q) q.arity

-- and the type has it from its superclass, and a class declares it
abbrev pub IsKeyedLower : World → Key → ℕ → Type 0
IsKeyedLower w q m = IsKeyed w q m × IsLower w q.owner m

-- a method with the key's name and number of parameters that the key's type inherits unless it declares its signature
abbrev pub IsKeyedAbove : World → Key → ℕ → Type 0
IsKeyedAbove w q k = IsInheritable w q.owner k × IsCalled w (named_by q) q.arity k

-- the list of a key is new, and has these methods
pub record IsMade (w : World) (methods : List ℕ) (key : Key) (old new : Tables) : Type 0 where
  pub class : new.class ≡ old.class
  pub table : NumberedMethods
  pub right : IsNumbered w old.class methods table
  pub puts : (q : Key) → get same_key new.made q ≡ cond (same_key key q) (Some table) (get same_key old.made q)

-- the table has the methods of which P holds, as the type c sees them
abbrev pub HasAll : World → ℕ → (ℕ → Type 0) → NumberedMethods → Type 0
HasAll w c P x = (methods : List ℕ) × ((k : ℕ) → Contains methods k ↔ P k) × IsNumbered w c methods x

-- each list has the methods of which P holds for its key
abbrev pub HoldTables : World → (Key → ℕ → Type 0) → Tables → Type 0
HoldTables w P t = (q : Key) (x : NumberedMethods) → get same_key t.made q ≡ Some x → HasAll w t.class (P q) x
