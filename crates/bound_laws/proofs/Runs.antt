-- Calls and initialisations at two depths, and runs within two bounds.
use Rattle.std.proofs.Common.{◌≡◌, ℕ, zero, suc, ◌+◌, ◌-◌, List, [], ◌∷◌, Option, Some, None, refl, sym, ap, ◌∙◌, subst, arith}
use Rattle.std.specs.Prelude.{slice_get}
use Rattle.class_world.specs.declared.world.JavaType.TheVariants as ty
use Rattle.java_core.specs.Plain as e
use Rattle.core_meaning.specs.declared.values.Value.{Value}
use Rattle.core_meaning.specs.declared.values.Value.TheVariants as v
use Rattle.core_meaning.specs.declared.values.Ending.{Ending}
use Rattle.core_meaning.specs.declared.values.Ending.TheVariants.{Goes, Breaks, Continues, Returns}
use Rattle.core_meaning.specs.declared.values.Progress.{Progress}
use Rattle.core_meaning.specs.declared.values.Progress.TheVariants as progress
use Rattle.core_meaning.specs.declared.values.State.{State}
use Rattle.core_meaning.specs.State.{in_static, with_frame, with_progress, with_entered}
use Rattle.core_meaning.specs.Outcome.{Outcome, Gives, Threw, Bound}
use Rattle.core_meaning.specs.Code.{Code, Body, Written, Default, body_of, class_at, class_fields, superclass, is_constant}
use Rattle.core_meaning.specs.Classes.{type_of}
use Rattle.core_meaning.specs.Variables.{is_below}
use Rattle.core_meaning.specs.BuiltIns.{error_class}
use Rattle.core_meaning.specs.Calls.{entered_with, answered, ran, body, given, has_initialiser, all_given, above_first, initialisers, failed, settled, initialised, by_progress, entered, enter, initialise}
use Rattle.core_meaning.specs.Runs.{Result, result_of, start, all_fields, constants_given, main_of, run_within, run}
use Rattle.bound_laws.specs.Bounds.{GoesOn, RunsGoOn}
use Rattle.bound_laws.proofs.Further.{Further, Always, Extends, prefix_itself, prefix_through, kept, amiss, ends, from, cut, onward, then_on, leave_on, choose_on, step_on}
use Rattle.bound_laws.proofs.Primitives.{Places, low, high, some_on}
use Rattle.bound_laws.proofs.Expressions.{value_on}
use Rattle.bound_laws.proofs.Statements.{begun_on, stmt_on}

-- ---- bodies

answered_on : (e : Ending) → Always (answered e) (answered e)
answered_on Goes s = ends (kept s) refl
answered_on Breaks s = ends (amiss s) refl
answered_on Continues s = ends (amiss s) refl
answered_on (Returns a) s = ends (kept s) refl

ran_on : {s : State} {o o' o'' : Outcome Ending} → Further s o o' o'' → Further s (ran o) (ran o') (ran o'')
ran_on h = then_on h answered_on

progress_on : {f f' : State → Outcome (Unit {0})} (o : Option Progress) → Always f f' → Always (by_progress o f) (by_progress o f')
progress_on None h s = ends (amiss s) refl
progress_on (Some progress.Untouched) h s = h s
progress_on (Some progress.Running) h s = ends (kept s) refl
progress_on (Some progress.Done) h s = ends (kept s) refl
progress_on (Some progress.Failed) h s = ends (kept s) refl

module _ (q : Places) where
  body_on : (b : Body) → Always (body (low q) b) (body (high q) b)
  body_on (Written None x) s = ran_on (stmt_on q x s)
  body_on (Written (Some m) x) s = then_on (begun_on q m [] s) (λ f s. ran_on (stmt_on q x s))
  body_on (Default m) s = ran_on (begun_on q m [] s)

  -- ---- initialisation

  given_on : (f : ℕ) (o : Option e.Expr) → Always (given (low q) f o) (given (high q) f o)
  given_on f None s = ends (kept s) refl
  given_on f (Some x) s = then_on (value_on q x s) (λ a s. some_on (in_static f s) (λ old. ends (kept s) refl))

  all_given_on : (xs : List e.FieldVar) → Always (all_given (low q) xs) (all_given (high q) xs)
  all_given_on [] s = ends (kept s) refl
  all_given_on (x ∷ xs) s = then_on (choose_on (has_initialiser q.code x.field) (λ s. given_on x.field x.init s) (λ s. ends (kept s) refl) s) (λ u s. all_given_on xs s)

  above_on : (o : Option ℕ) → Always (above_first (low q) o) (above_first (high q) o)
  above_on None s = ends (kept s) refl
  above_on (Some k) s = q.initialises k s

  initialisers_on : (k : ℕ) → Always (initialisers (low q) k) (initialisers (high q) k)
  initialisers_on k s = leave_on s.frame (then_on (from (above_on (superclass q.code.world k) (with_frame (entered_with v.Null []) s)) (kept s))
      (λ u s. all_given_on (class_fields (class_at q.code k)) s))

  failed_on : (x : ℕ) → Always (failed (low q) x) (failed (high q) x)
  failed_on x s = some_on (type_of (v.Ref x) s) (λ t. choose_on (is_below q.code t (ty.Class error_class [])) (λ s. ends (kept s) refl) (λ s. ends (kept s) refl) s)

  settled_on : {s : State} {o o' o'' : Outcome (Unit {0})} (k : ℕ) → Further s o o' o'' → Further s (settled (low q) k o) (settled (high q) k o') (settled (high q) k o'')
  settled_on k h = onward (settled (low q) k) (settled (high q) k) h (λ u t. ends (kept t) refl)
      (λ x t. from (failed_on x (with_progress k progress.Failed t)) (kept t)) (λ t x r. r) kept

  initialised_on : (k : ℕ) → Always (initialised (low q) k) (initialised (high q) k)
  initialised_on k s = settled_on k (from (initialisers_on k (with_progress k progress.Running s)) (kept s))

  entered_on : (m : ℕ) (b : Body) (a : Value) (xs : List Value) → Always (entered (low q) m b a xs) (entered (high q) m b a xs)
  entered_on m b a xs = step_on (λ s. leave_on s.frame (from (body_on b (with_frame (entered_with a xs) (with_entered m s))) (prefix_itself s.printed, (m ∷ [], refl), λ w. w)))

  constants_on : (xs : List e.FieldVar) → Always (constants_given (low q) xs) (constants_given (high q) xs)
  constants_on [] s = ends (kept s) refl
  constants_on (x ∷ xs) s = then_on (choose_on (is_constant q.code x.field) (λ s. given_on x.field x.init s) (λ s. ends (kept s) refl) s) (λ u s. constants_on xs s)

-- ---- depths

module _ (c : Code) where
  -- at a depth and at the next one
  abbrev Calls : ℕ → Type 0
  Calls d = (m : ℕ) (a : Value) (xs : List Value) → Always (enter c d m a xs) (enter c (suc d) m a xs)

  abbrev Initialises : ℕ → Type 0
  Initialises d = (k : ℕ) → Always (initialise c d k) (initialise c (suc d) k)

  -- the two places, given what is below them
  abbrev places : (d k : ℕ) → Calls d → Initialises d → Places
  places d k f g = record {
    code = c;
    class = k;
    call = enter c d;
    call' = enter c (suc d);
    initialise = initialise c d;
    initialise' = initialise c (suc d);
    turns = suc d;
    calls = f;
    initialises = g;
  }

  -- at no depth at all every body is cut off
  calls_nothing : (m : ℕ) (a : Value) (xs : List Value) → Always (enter c zero m a xs) (enter c zero m a xs)
  calls_nothing m a xs s = some_on (slice_get c.world.methods m) (λ i. some_on (body_of c i.owner m) (λ b. ends (kept s) (kept s)))

  initialises_nothing : (k : ℕ) → Always (initialise c zero k) (initialise c zero k)
  initialises_nothing k s = progress_on (slice_get s.progress k) (λ s. ends {o = Bound s} (kept s) (kept s)) s

  -- both places at that depth
  abbrev lowest : ℕ → Places
  lowest k = record {
    code = c;
    class = k;
    call = enter c zero;
    call' = enter c zero;
    initialise = initialise c zero;
    initialise' = initialise c zero;
    turns = zero;
    calls = calls_nothing;
    initialises = initialises_nothing;
  }

  mutual
    enter_on : (d m : ℕ) (a : Value) (xs : List Value) → Always (enter c d m a xs) (enter c (suc d) m a xs)
    enter_on zero m a xs s = some_on (slice_get c.world.methods m) (λ i. some_on (body_of c i.owner m) (λ b. cut (entered_on (lowest i.owner) m b a xs) s))
    enter_on (suc d) m a xs s = some_on (slice_get c.world.methods m) (λ i. some_on (body_of c i.owner m) (λ b. entered_on (places d i.owner (enter_on d) (initialise_on d)) m b a xs s))

    initialise_on : (d k : ℕ) → Always (initialise c d k) (initialise c (suc d) k)
    initialise_on zero k s = progress_on (slice_get s.progress k) (cut (initialised_on (lowest k) k)) s
    initialise_on (suc d) k s = progress_on (slice_get s.progress k) (initialised_on (places d k (enter_on d) (initialise_on d)) k) s

  -- ---- runs

  -- at the next bound, and the next depth
  run_on : (d k : ℕ) (args : List (List ℕ)) (n : ℕ) → Further (start c args n) (run_within c d k args n) (run_within c (suc d) k args (suc n)) (run_within c (suc d) k args n)
  run_on d k args n = then_on (constants_on (places d k (enter_on d) (initialise_on d)) (all_fields c) (start c args n)) (λ u s.
      then_on (initialise_on d k s) (λ u s. some_on (main_of c k) (λ m. enter_on d m v.Null (v.Ref 1 ∷ []) s)))

  run_extends : (x k : ℕ) (args : List (List ℕ)) (n : ℕ) → Extends (run_within c (n + x) k args n) (run_within c (suc n + x) k args (suc n))
  run_extends x k args n =
      let e : suc n + x ≡ suc (n + x) = omega arith in
      subst (λ d. Extends (run_within c (n + x) k args n) (run_within c d k args (suc n))) (sym e) (run_on (n + x) k args n).extends

-- ---- results

goes_itself : (r : Result) → GoesOn r r
goes_itself r = record { printed = prefix_itself r.printed; entered = prefix_itself r.entered; wrong = λ w. w; ended = λ n. refl }

goes_through : (r s t : Result) → GoesOn r s → GoesOn s t → GoesOn r t
goes_through r s t a b = record {
  printed = prefix_through r.printed s.printed t.printed a.printed b.printed;
  entered = prefix_through r.entered s.entered t.entered a.entered b.entered;
  wrong = λ w. b.wrong (a.wrong w);
  ended = λ n. let e = a.ended n in b.ended (λ at. n (ap (λ r. r.end) (sym e) ∙ at)) ∙ e;
}

result_on : (o o' : Outcome Value) → Extends o o' → GoesOn (result_of o) (result_of o')
result_on (Gives a s) o' e = subst (λ x. GoesOn (result_of (Gives a s)) (result_of x)) (sym e) (goes_itself (result_of (Gives a s)))
result_on (Threw k s) o' e = subst (λ x. GoesOn (result_of (Threw k s)) (result_of x)) (sym e) (goes_itself (result_of (Threw k s)))
result_on (Bound s) o' r = record { printed = r.0; entered = r.1; wrong = r.2; ended = λ n. absurd (n refl) }

module _ (c : Code) (k : ℕ) (args : List (List ℕ)) where
  abbrev within : ℕ → Result
  within n = result_of (run c k args n)

  -- one step more
  next_on : (n : ℕ) → GoesOn (within n) (within (suc n))
  next_on n = result_on (run c k args n) (run c k args (suc n)) (run_extends c _ k args n)

  -- so many steps more
  later_on : (n j : ℕ) → GoesOn (within n) (within (j + n))
  later_on n zero = let e : 0 + n ≡ n = omega arith in subst (λ m. GoesOn (within n) (within m)) (sym e) (goes_itself (within n))
  later_on n (suc j) =
      let e : suc j + n ≡ suc (j + n) = omega arith in
      subst (λ m. GoesOn (within n) (within m)) (sym e) (goes_through (within n) (within (j + n)) (within (suc (j + n))) (later_on n j) (next_on (j + n)))

pub runs_go_on : RunsGoOn
runs_go_on c k args n m le =
    let e : (m - n) + n ≡ m = omega (arith, le) in
    subst (λ m. GoesOn (result_of (run c k args n)) (result_of (run c k args m))) e (later_on c k args n (m - n))
