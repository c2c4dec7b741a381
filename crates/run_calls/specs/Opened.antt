-- Frames of bodies and of initialisers, as they are opened one depth below the caller's.
use Rattle.std.specs.Prelude.{ℕ, zero, suc, ◌∷◌, Option}
use Rattle.core_meaning.specs.declared.values.Value.{Value}
use Rattle.core_meaning.specs.declared.values.Frame.{Frame}
use Rattle.core_meaning.specs.declared.values.State.{State}
use Rattle.core_meaning.specs.State.{with_frame, with_entered}
use Rattle.core_meaning.specs.Outcome.{Outcome, Gives, Bound, and_then, choose, step, leave, with_some}
use Rattle.core_meaning.specs.Code.{Code, Body, body_of, class_at, class_fields, is_instance_field}
use Rattle.core_meaning.specs.Variables.{Place}
use Rattle.core_meaning.specs.Statements.{filled}
use Rattle.core_meaning.specs.declared.values.Ending.{Ending}
use Rattle.core_meaning.specs.declared.values.Ending.TheVariants.{Goes}
use Rattle.java_core.specs.Plain.{FieldVar}
use Rattle.core_meaning.specs.Calls.{above_first, all_given, body, given, has_initialiser, initialised, place_at}
use Rattle.run_frames.specs.declared.run.Run.{Run}
use Rattle.run_frames.specs.declared.waits.Waits.TheVariants as w

-- What is done next is done in this frame at this depth, and what waits is done where the caller was.
abbrev pub opened : (depth : ℕ) → Frame → (class : ℕ) → Run → Run
opened d f k r = record {
  state = with_frame f r.state;
  stack = w.Leave r.state.frame r.depth r.class ∷ r.stack;
  depth = d;
  class = k;
}

-- a method or constructor runs in this frame
abbrev pub body_in : Place → (method : ℕ) → Body → Frame → State → Outcome Value
body_in p m b f s = leave s.frame (body p b (with_frame f (with_entered m s)))

-- the same, where a step is left
abbrev pub entered_in : Place → (method : ℕ) → Body → Frame → State → Outcome Value
entered_in p m b f s = step s (body_in p m b f)

-- the same one deeper, of the type k
abbrev pub entered_from : Code → (depth k method : ℕ) → Body → Frame → State → Outcome Value
entered_from c zero k m b f s = Bound s
entered_from c (suc d) k m b f s = entered_in (place_at c d k) m b f s

-- the same, where there is a body
abbrev pub entered_of : Code → (depth k method : ℕ) → Frame → State → Outcome Value
entered_of c d k m f s = with_some (body_of c k m) s (λ b. entered_from c d k m b f s)

-- an untouched type is initialised one deeper
abbrev pub started_from : Code → (depth type : ℕ) → State → Outcome (Unit {0})
started_from c zero k s = Bound s
started_from c (suc d) k s = initialised (place_at c d k) k s

-- what the initialisers of a type do in their frame, behind those of the superclass
abbrev pub given_behind : Place → (superclass : Option ℕ) → (type : ℕ) → State → Outcome (Unit {0})
given_behind p above k s = and_then (above_first p above s) (λ u s. all_given p (class_fields (class_at p.code k)) s)

-- a field of those that all are filled or given

abbrev pub filled_one : Place → FieldVar → State → Outcome Ending
filled_one p x s = choose (is_instance_field p.code.world x.field) (filled p x.field x.init) (λ s. Gives Goes s) s

abbrev pub given_one : Place → FieldVar → State → Outcome (Unit {0})
given_one p x s = choose (has_initialiser p.code x.field) (given p x.field x.init) (λ s. Gives tt s) s
