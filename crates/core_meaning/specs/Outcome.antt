-- How a piece of a program ends, and the few ways to go on from it.
use Rattle.std.specs.Prelude.{ℕ, zero, suc, ℤ, Bool, true, false, List, [], length, codes, Option, Some, None, slice_get}
use Rattle.core_meaning.specs.declared.values.Value.{Value}
use Rattle.core_meaning.specs.declared.values.Value.TheVariants as v
use Rattle.core_meaning.specs.declared.values.Ending.{Ending}
use Rattle.core_meaning.specs.declared.values.Ending.TheVariants as ending
use Rattle.core_meaning.specs.declared.values.Frame.{Frame}
use Rattle.core_meaning.specs.declared.values.State.{State}
use Rattle.core_meaning.specs.declared.values.Thing.TheVariants.{Object}
use Rattle.core_meaning.specs.State.{with_frame, with_thing, with_text, gone_wrong}
use Rattle.core_meaning.specs.declared.values.Made.{Made}
use Rattle.core_meaning.specs.declared.values.Made.TheVariants.{Makes, ByZero, NoRule}
use Rattle.core_meaning.specs.BuiltIns.{null_pointer_exception, class_cast_exception, arithmetic_exception}

-- with a value, with the number of a thrown object, or at the bound; each with the state after it
pub data Outcome (A : Type 0) : Type 0 where
  Gives : A → State → Outcome A
  Threw : (thrown : ℕ) → State → Outcome A
  Bound : State → Outcome A

-- the state after it
abbrev pub after : {A : Type 0} → Outcome A → State
after (Gives a s) = s
after (Threw k s) = s
after (Bound s) = s

abbrev pub and_then : {A B : Type 0} → Outcome A → (A → State → Outcome B) → Outcome B
and_then (Gives a s) f = f a s
and_then (Threw k s) f = Threw k s
and_then (Bound s) f = Bound s

-- ---- exceptions of the machine

-- throws a new object of this class, with this message
abbrev pub throws : {A : Type 0} → (class : ℕ) → (message : Value) → State → Outcome A
throws c a s = Threw (length s.heap) (with_thing (Object c [] a) s)

-- with no message
abbrev pub throws_plain : {A : Type 0} → (class : ℕ) → State → Outcome A
throws_plain c s = throws c v.Null s

-- with a string of its own for a message
abbrev pub throws_saying : {A : Type 0} → (class : ℕ) → List ℕ → State → Outcome A
throws_saying c units s = throws c (v.Text (length s.texts)) (with_text units s)

-- what an operation does that has no rule for what it meets, and a cast that fails and is not written: the run has gone wrong
abbrev pub misfit : {A : Type 0} → State → Outcome A
misfit s = throws_plain class_cast_exception (gone_wrong s)

-- ---- going on with what is there

abbrev pub with_some : {A B : Type 0} → Option A → State → (A → Outcome B) → Outcome B
with_some None s f = misfit s
with_some (Some a) s f = f a

-- with the number of an object or array; null throws
abbrev pub with_reference : {B : Type 0} → Value → State → (ℕ → Outcome B) → Outcome B
with_reference v.Null s f = throws_plain null_pointer_exception s
with_reference (v.Ref r) s f = f r
with_reference _ s f = misfit s

-- with a reference of any kind, a string's too; null throws
abbrev pub unless_null : {B : Type 0} → Value → State → Outcome B → Outcome B
unless_null v.Null s o = throws_plain null_pointer_exception s
unless_null _ s o = o

-- with the units of a string; null throws
abbrev pub with_units : {B : Type 0} → Value → State → (List ℕ → Outcome B) → Outcome B
with_units v.Null s f = throws_plain null_pointer_exception s
with_units (v.Text k) s f = with_some (slice_get s.texts k) s f
with_units _ s f = misfit s

-- with an int
abbrev pub with_int : {B : Type 0} → Value → State → (ℤ → Outcome B) → Outcome B
with_int (v.Int z) s f = f z
with_int _ s f = misfit s

-- one way where a truth value is true, else the other
abbrev pub choose : {B : Type 0} → Bool → (State → Outcome B) → (State → Outcome B) → State → Outcome B
choose true go otherwise s = go s
choose false go otherwise s = otherwise s

abbrev pub by_truth : {B : Type 0} → Value → (State → Outcome B) → (State → Outcome B) → State → Outcome B
by_truth (v.Truth b) go otherwise s = choose b go otherwise s
by_truth _ go otherwise s = misfit s

-- with what an operator makes (JLS 15.17.2)
abbrev pub with_made : {B : Type 0} → Made → State → (Value → Outcome B) → Outcome B
with_made (Makes a) s f = f a
with_made ByZero s f = throws_saying arithmetic_exception (codes "/ by zero") s
with_made NoRule s f = misfit s

-- ---- steps and frames

abbrev pub step_at : {A : Type 0} → ℕ → State → (State → Outcome A) → Outcome A
step_at zero s go = Bound s
step_at (suc k) s go = go (record s { left = k })

-- takes a step, where one is left
abbrev pub step : {A : Type 0} → State → (State → Outcome A) → Outcome A
step s go = step_at s.left s go

-- back in the frame of the caller
abbrev pub leave : {A : Type 0} → Frame → Outcome A → Outcome A
leave f (Gives a s) = Gives a (with_frame f s)
leave f (Threw k s) = Threw k (with_frame f s)
leave f (Bound s) = Bound (with_frame f s)

-- ---- endings of statements

-- the next statement, unless this one jumps
abbrev pub and_goes : Ending → State → (State → Outcome Ending) → Outcome Ending
and_goes ending.Goes s next = next s
and_goes ending.Breaks s next = Gives ending.Breaks s
and_goes ending.Continues s next = Gives ending.Continues s
and_goes (ending.Returns a) s next = Gives (ending.Returns a) s

-- what comes behind the body of a loop: a continue goes on with it, a break ends the loop (14.15, 14.16)
abbrev pub and_turns : Ending → State → (State → Outcome Ending) → Outcome Ending
and_turns ending.Goes s next = next s
and_turns ending.Breaks s next = Gives ending.Goes s
and_turns ending.Continues s next = next s
and_turns (ending.Returns a) s next = Gives (ending.Returns a) s

-- a break ends the switch
abbrev pub behind_switch : Outcome Ending → Outcome Ending
behind_switch (Gives ending.Breaks s) = Gives ending.Goes s
behind_switch o = o

-- Loops of at most n turns, of which the next has the number i. `before` says whether there is one, and does what is done before it begins; it takes a step as it
-- begins (14.12, 14.14).
abbrev pub loop : (n i : ℕ) → (before : ℕ → State → Outcome Bool) → (body : State → Outcome Ending) → State → Outcome Ending
loop zero i before body s = Bound s
loop (suc n) i before body s = and_then (before i s) (λ b s. choose b
    (λ s. step s (λ s. and_then (body s) (λ e s. and_turns e s (loop n (suc i) before body))))
    (λ s. Gives ending.Goes s) s)

-- the same with the test behind the body (14.13)
abbrev pub do_loop : (n : ℕ) → (body : State → Outcome Ending) → (test : State → Outcome Bool) → State → Outcome Ending
do_loop zero body test s = Bound s
do_loop (suc n) body test s =
    step s (λ s. and_then (body s) (λ e s. and_turns e s (λ s. and_then (test s) (λ b s. choose b (do_loop n body test) (λ s. Gives ending.Goes s) s))))

-- The finally block (14.20.2): where it ends by a jump or a throw of its own, that counts. At the bound it is not entered.
abbrev pub finally : Outcome Ending → (State → Outcome Ending) → Outcome Ending
finally (Gives e s) last = and_then (last s) (λ f s. and_goes f s (λ s. Gives e s))
finally (Threw k s) last = and_then (last s) (λ f s. and_goes f s (λ s. Threw k s))
finally (Bound s) last = Bound s

-- what catches do with a thrown object (14.20.1)
abbrev pub rescued : Outcome Ending → (ℕ → State → Outcome Ending) → Outcome Ending
rescued (Gives e s) catches = Gives e s
rescued (Threw k s) catches = catches k s
rescued (Bound s) catches = Bound s
