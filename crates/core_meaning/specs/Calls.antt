-- What entering a method or constructor does, and what the initialisation of a type does (JLS 12.4.2, 12.5, 15.12.4.5). Trees know nothing of either: both are parts of the
-- place that they run in.
use Rattle.std.specs.Prelude.{ℕ, zero, suc, Bool, not, ◌||◌, List, [], ◌∷◌, map, Option, Some, None, slice_get}
use Rattle.class_world.specs.declared.world.MethodInfo.{MethodInfo}
use Rattle.class_world.specs.declared.world.JavaType.TheVariants as ty
use Rattle.java_core.specs.Plain as e
use Rattle.core_meaning.specs.declared.values.Value.{Value}
use Rattle.core_meaning.specs.declared.values.Value.TheVariants as v
use Rattle.core_meaning.specs.declared.values.Ending.{Ending}
use Rattle.core_meaning.specs.declared.values.Ending.TheVariants.{Goes, Breaks, Continues, Returns}
use Rattle.core_meaning.specs.declared.values.Progress.{Progress}
use Rattle.core_meaning.specs.declared.values.Progress.TheVariants as progress
use Rattle.core_meaning.specs.declared.values.Frame.{Frame}
use Rattle.core_meaning.specs.declared.values.State.{State}
use Rattle.core_meaning.specs.State.{in_static, with_frame, with_static, with_progress, with_entered}
use Rattle.core_meaning.specs.BuiltIns.{error_class, exception_in_initializer_error, no_class_def_found_error}
use Rattle.core_meaning.specs.Outcome.{Outcome, Gives, Threw, Bound, and_then, throws_plain, misfit, with_some, choose, step, leave}
use Rattle.core_meaning.specs.Code.{Code, Body, Written, Default, body_of, class_at, class_fields, superclass, is_instance_field, is_constant}
use Rattle.core_meaning.specs.Classes.{type_of}
use Rattle.core_meaning.specs.Variables.{Place, is_below}
use Rattle.core_meaning.specs.Expressions.{value}
use Rattle.core_meaning.specs.Statements.{stmt, begun}

-- ---- bodies

-- the frame of a body: a parameter's slot is its position
abbrev pub entered_with : Value → List Value → Frame
entered_with this xs = record { this = this; slots = map Some xs }

abbrev pub answer : Option Value → Value
answer None = v.Null
answer (Some a) = a

-- What a body answers; where it returns nothing, null, which nobody reads.
abbrev pub answered : Ending → State → Outcome Value
answered Goes s = Gives v.Null s
answered Breaks s = misfit s
answered Continues s = misfit s
answered (Returns a) s = Gives (answer a) s

abbrev pub ran : Outcome Ending → Outcome Value
ran o = and_then o answered

-- The constructor of the superclass that runs unsaid comes first.
abbrev pub body : Place → Body → State → Outcome Value
body p (Written None x) s = ran (stmt p x s)
body p (Written (Some m) x) s = and_then (begun p m [] s) (λ f s. ran (stmt p x s))
body p (Default m) s = ran (begun p m [] s)

-- ---- initialisation

-- the initialiser of a static field that is no constant field
abbrev pub given : Place → ℕ → Option e.Expr → State → Outcome (Unit {0})
given p f None s = Gives tt s
given p f (Some x) s = and_then (value p x s) (λ a s. with_some (in_static f s) s (λ old. Gives tt (with_static f a s)))

abbrev pub has_initialiser : Code → ℕ → Bool
has_initialiser c f = not (is_instance_field c.world f || is_constant c f)

-- those of a type, in text order
abbrev pub all_given : Place → List e.FieldVar → State → Outcome (Unit {0})
all_given p [] s = Gives tt s
all_given p (x ∷ xs) s = and_then (choose (has_initialiser p.code x.field) (given p x.field x.init) (λ s. Gives tt s) s) (λ u s. all_given p xs s)

abbrev pub above_first : Place → Option ℕ → State → Outcome (Unit {0})
above_first p None s = Gives tt s
above_first p (Some k) s = p.initialise k s

-- the superclass, and then the type's own initialisers, in a frame of their own
abbrev pub initialisers : Place → ℕ → State → Outcome (Unit {0})
initialisers p k s = leave s.frame (and_then (above_first p (superclass p.code.world k) (with_frame (entered_with v.Null []) s)) (λ u s.
    all_given p (class_fields (class_at p.code k)) s))

-- An object below Error is thrown on, any other one replaced.
abbrev pub failed : Place → (thrown : ℕ) → State → Outcome (Unit {0})
failed p x s = with_some (type_of (v.Ref x) s) s (λ t.
    choose (is_below p.code t (ty.Class error_class [])) (Threw x) (throws_plain exception_in_initializer_error) s)

abbrev pub settled : Place → ℕ → Outcome (Unit {0}) → Outcome (Unit {0})
settled p k (Gives u s) = Gives tt (with_progress k progress.Done s)
settled p k (Threw x s) = failed p x (with_progress k progress.Failed s)
settled p k (Bound s) = Bound s

abbrev pub initialised : Place → ℕ → State → Outcome (Unit {0})
initialised p k s = settled p k (initialisers p k (with_progress k progress.Running s))

-- where a type is untouched, what initialises it
abbrev pub by_progress : Option Progress → (State → Outcome (Unit {0})) → State → Outcome (Unit {0})
by_progress None go s = misfit s
by_progress (Some progress.Untouched) go s = go s
by_progress (Some progress.Running) go s = Gives tt s
by_progress (Some progress.Done) go s = Gives tt s
by_progress (Some progress.Failed) go s = throws_plain no_class_def_found_error s

-- ---- the two together

-- the place of a type's trees
abbrev pub place_with : Code → (call : ℕ → Value → List Value → State → Outcome Value) → (initialise : ℕ → State → Outcome (Unit {0})) → (turns class : ℕ) → Place
place_with c call initialise n k = record { code = c; class = k; call = call; initialise = initialise; turns = n }

abbrev pub entered : Place → ℕ → Body → Value → List Value → State → Outcome Value
entered p m b a xs s = step s (λ s. leave s.frame (body p b (with_frame (entered_with a xs) (with_entered m s))))

abbrev mutual
  -- Entering a method or constructor of a file, where at most d calls and initialisations are open at a time. As many as there are steps left and untouched types are
  -- enough: each call takes a step and each initialisation a type. Where there is no body, it goes wrong at every depth.
  pub enter : Code → (d : ℕ) → (method : ℕ) → (this : Value) → List Value → State → Outcome Value
  enter c zero m a xs s = with_some (slice_get c.world.methods m) s (λ (i : MethodInfo). with_some (body_of c i.owner m) s (λ b. Bound s))
  enter c (suc d) m a xs s = with_some (slice_get c.world.methods m) s (λ (i : MethodInfo). with_some (body_of c i.owner m) s (λ b.
      entered (place_with c (enter c d) (initialise c d) (suc d) i.owner) m b a xs s))

  -- the initialisation of a type, in the same depth
  pub initialise : Code → (d : ℕ) → (type : ℕ) → State → Outcome (Unit {0})
  initialise c zero k s = by_progress (slice_get s.progress k) Bound s
  initialise c (suc d) k s = by_progress (slice_get s.progress k) (initialised (place_with c (enter c d) (initialise c d) (suc d) k) k) s

-- the place of trees that run where at most d calls and initialisations are open
abbrev pub place_at : Code → (d class : ℕ) → Place
place_at c d k = place_with c (enter c d) (initialise c d) (suc d) k
