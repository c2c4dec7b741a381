-- What a run on its way comes to, and what a step of it leads to.
use Rattle.std.specs.Prelude.{◌≡◌, Result, IfOk}
use Rattle.core_meaning.specs.declared.values.State.{State}
use Rattle.core_meaning.specs.Outcome.{Outcome}
use Rattle.core_meaning.specs.Code.{Code}
use Rattle.core_meaning.specs.Variables.{Place}
use Rattle.core_meaning.specs.Calls.{place_at}
use Rattle.run_frames.specs.declared.focus.Answer.{Answer}
use Rattle.run_frames.specs.declared.focus.Focus.{Focus}
use Rattle.run_frames.specs.declared.run.Run.{Run}
use Rattle.run_frames.specs.Frames.{outcome, resumed}

-- the place of what is done next
abbrev pub place_of : Code → Run → Place
place_of c r = place_at c r.depth r.class

-- what comes of an outcome of what is done next
abbrev pub comes : Code → Run → Outcome Answer → Outcome Answer
comes c r o = resumed c r.depth r.class r.stack o

-- what comes of a run in which this is done next
abbrev pub whole : Code → Run → Focus → Outcome Answer
whole c r x = comes c r (outcome (place_of c r) x r.state)

-- A step from a run, where this was to be done, to another, where that is done next, changes nothing of what comes of it. Nothing is said where memory ran out.
abbrev pub Leads : {E : Type 0} → (old : Run) → Result Focus E → (new : Run) → (Place → State → Outcome Answer) → Type 0
Leads old r new o = (c : Code) → IfOk r (λ x. whole c new x ≡ comes c old (o (place_of c old) old.state))

-- the same for programs of which something is known
abbrev pub Steps : {E : Type 0} → (Code → Type 0) → (old : Run) → Result Focus E → (new : Run) → (Place → State → Outcome Answer) → Type 0
Steps known old r new o = (c : Code) → known c → IfOk r (λ x. whole c new x ≡ comes c old (o (place_of c old) old.state))
