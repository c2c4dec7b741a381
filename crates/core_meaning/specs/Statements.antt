-- What a statement does, a clause a form (JLS 14).
use Rattle.std.specs.Prelude.{ℕ, ℤ, pos, Bool, true, false, ◌||◌, List, [], ◌∷◌, Option, Some, None, is_none, slice_get}
use Rattle.std.specs.Ordering.{int_eq}
use Rattle.std.specs.List.{list_any}
use Rattle.class_world.specs.declared.world.JavaType.{JavaType}
use Rattle.class_world.specs.declared.world.Walk.{Walk}
use Rattle.java_core.specs.Plain as e
use Rattle.type_kinds.specs.Kinds.{ty_of, element}
use Rattle.core_meaning.specs.declared.values.Value.{Value}
use Rattle.core_meaning.specs.declared.values.Value.TheVariants as v
use Rattle.core_meaning.specs.declared.values.Variable.TheVariants as of
use Rattle.core_meaning.specs.declared.values.Ending.{Ending}
use Rattle.core_meaning.specs.declared.values.Ending.TheVariants.{Goes, Breaks, Continues, Returns}
use Rattle.core_meaning.specs.declared.values.State.{State}
use Rattle.core_meaning.specs.State.{items_of, with_local}
use Rattle.core_meaning.specs.Outcome.{Outcome, Gives, Threw, and_then, with_some, with_reference, choose, by_truth, and_goes, behind_switch, loop, do_loop, finally, rescued}
use Rattle.core_meaning.specs.Code.{class_at, class_fields, is_instance_field}
use Rattle.core_meaning.specs.Classes.{type_of}
use Rattle.core_meaning.specs.Variables.{Place, fitted, implied_cast, is_below, store}
use Rattle.core_meaning.specs.Members.{invoked, called}
use Rattle.core_meaning.specs.Expressions.{value, values}

-- goes on behind what answers something that nobody reads
abbrev pub done : {A : Type 0} → Outcome A → Outcome Ending
done o = and_then o (λ a s. Gives Goes s)

-- ---- locals and tests

abbrev pub local_by : Option e.Expr → Place → (slot : ℕ) → State → Outcome Ending
local_by None p k s = Gives Goes s
local_by (Some x) p k s = and_then (value p x s) (λ a s. Gives Goes (with_local k a s))

abbrev pub local : Place → e.Var → State → Outcome Ending
local p x s = local_by x.init p x.slot s

abbrev pub locals : Place → List e.Var → State → Outcome Ending
locals p [] s = Gives Goes s
locals p (x ∷ xs) s = and_then (local p x s) (λ f s. locals p xs s)

-- a test as a truth value
abbrev pub tested : Place → e.Expr → State → Outcome Bool
tested p x s = and_then (value p x s) (λ a s. by_truth a (λ s. Gives true s) (λ s. Gives false s) s)

-- a `for` without a test goes on (14.14.1.2)
abbrev pub tested_or : Place → Option e.Expr → State → Outcome Bool
tested_or p None s = Gives true s
tested_or p (Some x) s = tested p x s

-- the body of a `for` and then its updates, unless the body jumps elsewhere
abbrev pub and_updates : Ending → (State → Outcome Ending) → State → Outcome Ending
and_updates Goes updates s = updates s
and_updates Breaks updates s = Gives Breaks s
and_updates Continues updates s = updates s
and_updates (Returns a) updates s = Gives (Returns a) s

-- ---- the enhanced for (14.14.2)

-- The variable takes a value; the turn begins behind it.
abbrev pub taken : (slot : ℕ) → (type : JavaType) → Value → State → Outcome Bool
taken k u a s = and_then (fitted u a s) (λ a s. Gives true (with_local k a s))

-- of a number of items in all, the next one, if there is one
abbrev pub take_item : (slot : ℕ) → (type : JavaType) → Option Value → State → Outcome Bool
take_item k u None s = Gives false s
take_item k u (Some a) s = taken k u a s

abbrev pub item_before : (slot : ℕ) → (type : JavaType) → Value → ℕ → State → Outcome Bool
item_before k u a i s = with_reference a s (λ r. with_some (items_of r s) s (λ xs. take_item k u (slice_get xs i) s))

abbrev pub cast_if : Bool → Place → JavaType → Value → State → Outcome Value
cast_if true p t a s = implied_cast p t a s
cast_if false p t a s = Gives a s

-- hasNext(), and where it says so next(), its implied cast and the storing of the variable
abbrev pub next_before : Place → Walk → (slot : ℕ) → (type : JavaType) → JavaType → Bool → Value → State → Outcome Bool
next_before p w k u t implied a s = and_then (called p w.has_next a [] s) (λ b s. by_truth b
    (λ s. and_then (called p w.next a [] s) (λ y s. and_then (cast_if implied p t y s) (taken k u)))
    (λ s. Gives false s) s)

-- over what is no array: iterator() is called once
abbrev pub walked : Place → Option Walk → (slot : ℕ) → (type : JavaType) → JavaType → Bool → Value → (State → Outcome Ending) → State → Outcome Ending
walked p w k u t implied a body s = with_some w s (λ w. and_then (called p w.iterator a [] s) (λ it s.
    loop p.turns 0 (λ i. next_before p w k u t implied it) body s))

-- over an array: it is evaluated once, and so is its length
abbrev pub each_item : Place → (slot : ℕ) → (type : JavaType) → Value → (State → Outcome Ending) → State → Outcome Ending
each_item p k u a body s = with_reference a s (λ r. loop p.turns 0 (item_before k u a) body s)

-- by the type of what is gone over
abbrev pub each : Option JavaType → Place → (slot : ℕ) → (type : JavaType) → JavaType → Bool → Value → (State → Outcome Ending) → State → Outcome Ending
each (Some v) p k u t implied a body s = each_item p k u a body s
each None p k u t implied a body s = walked p p.code.world.walk k u t implied a body s

-- ---- switch (14.11)

abbrev pub selector : Value → Option ℤ
selector (v.Int z) = Some z
selector (v.Char c) = Some (pos c)
selector _ = None

abbrev pub is_label : ℤ → Option ℤ → Bool
is_label z None = false
is_label z (Some x) = int_eq x z

-- whether a group has the label of this number; whether it has `default`
abbrev pub has_label : ℤ → List (Option ℤ) → Bool
has_label z xs = list_any (is_label z) xs

abbrev pub has_default : List (Option ℤ) → Bool
has_default xs = list_any is_none xs

abbrev pub has_group : (List (Option ℤ) → Bool) → e.Groups → Bool
has_group test e.NoGroup = false
has_group test (e.AndGroup (e.Labelled n ls body) gs) = test ls || has_group test gs

abbrev pub chosen : Bool → ℤ → List (Option ℤ) → Bool
chosen true z = has_label z
chosen false z = has_default

abbrev pub labels_of : e.Group → List (Option ℤ)
labels_of (e.Labelled n ls body) = ls

-- The group where a switch on this number goes on: that of its label, or else that of `default`.
abbrev pub begins_at : ℤ → e.Groups → List (Option ℤ) → Bool
begins_at z gs = chosen (has_group (has_label z) gs) z

-- ---- constructors (8.8.7, 12.5)

abbrev pub filled : Place → ℕ → Option e.Expr → State → Outcome Ending
filled p f None s = Gives Goes s
filled p f (Some x) s = and_then (value p x s) (λ a s. done (store p (of.Field s.frame.this f) a s))

-- the initialisers of the class's instance fields, in text order
abbrev pub all_filled : Place → List e.FieldVar → State → Outcome Ending
all_filled p [] s = Gives Goes s
all_filled p (x ∷ xs) s = and_then (choose (is_instance_field p.code.world x.field) (filled p x.field x.init) (λ s. Gives Goes s) s) (λ f s. all_filled p xs s)

-- the constructor of the superclass, and behind it the initialisers of the class
abbrev pub begun : Place → (constructor : ℕ) → List Value → State → Outcome Ending
begun p m xs s = and_then (invoked p m s.frame.this xs s) (λ a s. all_filled p (class_fields (class_at p.code p.class)) s)

-- ---- the forms

abbrev mutual
  pub stmt : Place → e.Stmt → State → Outcome Ending
  stmt p (e.Block n xs) s = stmts p xs s
  stmt p (e.Locals n is_final w xs) s = locals p xs s
  stmt p (e.Empty n) s = Gives Goes s
  stmt p (e.Value n x) s = done (value p x s)
  stmt p (e.If n x y z) s = and_then (value p x s) (λ a s. by_truth a (stmt p y) (maybe_stmt p z) s)
  stmt p (e.While n x y) s = loop p.turns 0 (λ i. tested p x) (stmt p y) s
  stmt p (e.Do n y x) s = do_loop p.turns (stmt p y) (tested p x) s
  stmt p (e.For n xs x us y) s = and_then (stmts p xs s) (λ f s.
      loop p.turns 0 (λ i. tested_or p x) (λ s. and_then (stmt p y s) (λ g s. and_updates g (λ s. done (values p us s)) s)) s)
  stmt p (e.ForEach n is_final w x y t implied z) s = and_then (value p y s) (λ a s. each (element (ty_of y)) p x.slot x.ty t implied a (stmt p z) s)
  stmt p (e.Switch n x gs) s = and_then (value p x s) (λ a s. with_some (selector a) s (λ z. behind_switch (from_group p (begins_at z gs) gs s)))
  stmt p (e.Break n) s = Gives Breaks s
  stmt p (e.Continue n) s = Gives Continues s
  stmt p (e.Return n None) s = Gives (Returns None) s
  stmt p (e.Return n (Some x)) s = and_then (value p x s) (λ a s. Gives (Returns (Some a)) s)
  stmt p (e.Throw n x) s = and_then (value p x s) (λ a s. with_reference a s (λ k. Threw k s))
  stmt p (e.Try n y cs z) s = finally (rescued (stmt p y s) (λ k s. caught p k cs s)) (maybe_stmt p z)
  stmt p (e.ThisCall n m xs) s = and_then (values p xs s) (λ ys s. done (invoked p m s.frame.this ys s))
  stmt p (e.SuperFirst n m xs) s = and_then (values p xs s) (λ ys s. begun p m ys s)

  pub maybe_stmt : Place → e.MaybeStmt → State → Outcome Ending
  maybe_stmt p e.NoStmt s = Gives Goes s
  maybe_stmt p (e.AStmt x) s = stmt p x s

  pub stmts : Place → e.Stmts → State → Outcome Ending
  stmts p e.Last s = Gives Goes s
  stmts p (e.Then x xs) s = and_then (stmt p x s) (λ f s. and_goes f s (stmts p xs))

  pub group : Place → e.Group → State → Outcome Ending
  group p (e.Labelled n ls xs) s = stmts p xs s

  -- groups one behind the other: without a break one falls through into the next
  pub groups : Place → e.Groups → State → Outcome Ending
  groups p e.NoGroup s = Gives Goes s
  groups p (e.AndGroup g gs) s = and_then (group p g s) (λ f s. and_goes f s (groups p gs))

  -- from the first group on that passes the test
  pub from_group : Place → (List (Option ℤ) → Bool) → e.Groups → State → Outcome Ending
  from_group p test e.NoGroup s = Gives Goes s
  from_group p test (e.AndGroup g gs) s =
      choose (test (labels_of g)) (λ s. and_then (group p g s) (λ f s. and_goes f s (groups p gs))) (from_group p test gs) s

  -- the first catch whose class is above that of the thrown object (14.20.1)
  pub caught : Place → (thrown : ℕ) → e.Catches → State → Outcome Ending
  caught p k e.NoCatch s = Threw k s
  caught p k (e.AndCatch (e.Caught n x y) cs) s = with_some (type_of (v.Ref k) s) s (λ u.
      choose (is_below p.code u x.ty) (λ s. stmt p y (with_local x.slot (v.Ref k) s)) (caught p k cs) s)
