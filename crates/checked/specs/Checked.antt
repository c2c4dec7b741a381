-- A core, or the first broken rule.
use Rattle.std.specs.Prelude.{◌≡◌, ℕ, Bool, true, false, List, [], ◌∷◌, ◌++◌, Option, Some, None, Result, Ok, Err}
use Rattle.checked.specs.declared.stop.Stop.{Stop}
use Rattle.checked.specs.declared.stop.Stop.TheVariants as stop

pub data Checked (A : Type 0) : Type 0 where
  Fine : A → Checked A
  Broken : (node rule : ℕ) → Checked A

-- what reads all that stands before it
abbrev pub and_then : {A B : Type 0} → Checked A → (A → Checked B) → Checked B
and_then (Fine a) f = f a
and_then (Broken n r) f = Broken n r

-- a rule at a node, and then the rest
abbrev pub under : {A : Type 0} → Bool → (node rule : ℕ) → Checked A → Checked A
under true n r c = c
under false n r c = Broken n r

abbrev pub with_some : {A B : Type 0} → Option A → (node rule : ℕ) → (A → Checked B) → Checked B
with_some None n r f = Broken n r
with_some (Some a) n r f = f a

-- an item and those behind it
abbrev pub also : {A : Type 0} → A → Checked (List A) → Checked (List A)
also x (Fine xs) = Fine (x ∷ xs)
also x (Broken n r) = Broken n r

-- what was checked before the rest
abbrev pub behind : {A : Type 0} → List A → Checked (List A) → Checked (List A)
behind done (Fine xs) = Fine (done ++ xs)
behind done (Broken n r) = Broken n r

-- the answer without what was made
abbrev pub Stops : {A : Type 0} → Stop → Checked A → Type 0
Stops (stop.Broken n r) c = c ≡ Broken n r
Stops stop.NoMemory c = Unit {0}

-- The answer, read by view, is this. Nothing is said where memory ran out.
abbrev pub Meets : {X A : Type 0} → (X → A) → Result X Stop → Checked A → Type 0
Meets view (Ok x) c = c ≡ Fine (view x)
Meets view (Err e) c = Stops e c

abbrev pub same : {A : Type 0} → A → A
same x = x
