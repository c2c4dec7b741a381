-- A piece of a program with one step more, and what goes on behind a piece.
use Rattle.std.proofs.Common.{◌≡◌, ℕ, zero, suc, Bool, true, false, List, [], ◌++◌, refl, sym, ap, ◌∙◌, subst, append_assoc, append-nil}
use Rattle.core_meaning.specs.declared.values.Ending.{Ending}
use Rattle.core_meaning.specs.declared.values.Ending.TheVariants.{Goes, Breaks, Continues, Returns}
use Rattle.core_meaning.specs.declared.values.Frame.{Frame}
use Rattle.core_meaning.specs.declared.values.State.{State}
use Rattle.core_meaning.specs.State.{gone_wrong}
use Rattle.core_meaning.specs.Outcome.{Outcome, Gives, Threw, Bound, after, and_then, throws_plain, misfit, step, step_at, leave, choose, and_goes, and_turns, behind_switch, loop, do_loop, finally, rescued}
use Rattle.bound_laws.specs.Bounds.{IsPrefix}

-- ---- states

pub prefix_itself : (xs : List ℕ) → IsPrefix xs xs
prefix_itself xs = ([], sym (append-nil xs))

pub prefix_through : (xs ys zs : List ℕ) → IsPrefix xs ys → IsPrefix ys zs → IsPrefix xs zs
prefix_through xs ys zs a b = (a.0 ++ b.0, b.1 ∙ ap (λ us. us ++ b.0) a.1 ∙ append_assoc xs a.0 b.0)

-- From the first state the second one was reached: more may be printed and entered, and what went wrong stays so.
abbrev pub Reaches : State → State → Type 0
Reaches s t = IsPrefix s.printed t.printed × IsPrefix s.entered t.entered × (s.wrong ≡ true → t.wrong ≡ true)

-- of a state that nothing is printed or entered in
pub kept : (s : State) → Reaches s s
kept s = (prefix_itself s.printed, prefix_itself s.entered, λ w. w)

pub amiss : (s : State) → Reaches s (gone_wrong s)
amiss s = (prefix_itself s.printed, prefix_itself s.entered, λ w. refl)

pub through : (s t u : State) → Reaches s t → Reaches t u → Reaches s u
through s t u a b = (prefix_through s.printed t.printed u.printed a.0 b.0, prefix_through s.entered t.entered u.entered a.1 b.1, λ w. b.2 (a.2 w))

-- with one step more
abbrev pub more : State → State
more s = record s { left = suc s.left }

-- ---- pieces

-- The second outcome is the first one with a step more left, or goes on from where that one was cut off.
abbrev pub Extends : {A : Type 0} → Outcome A → Outcome A → Type 0
Extends (Gives a s) o = o ≡ Gives a (more s)
Extends (Threw k s) o = o ≡ Threw k (more s)
Extends (Bound s) o = Reaches s (after o)

-- A piece ends from s as `o`. The same piece in a larger place ends with one step more as `o'`, and from s itself as `o''`.
pub record Further {A : Type 0} (s : State) (o o' o'' : Outcome A) : Type 0 where
  pub extends : Extends o o'
  pub grows : Reaches s (after o'')

-- from every state
abbrev pub Always : {A : Type 0} → (f f' : State → Outcome A) → Type 0
Always f f' = (s : State) → Further s (f s) (f' (more s)) (f' s)

pub ends : {A : Type 0} {s : State} {o o' o'' : Outcome A} → Reaches s (after o'') → Extends o o' → Further s o o' o''
ends r e = record { extends = e; grows = r }

pub gives_on : {A : Type 0} (a : A) → Always (Gives a) (Gives a)
gives_on a s = ends (kept s) refl

pub throws_on : {A : Type 0} (class : ℕ) → Always {A = A} (throws_plain class) (throws_plain class)
throws_on class s = ends (kept s) refl

pub misfit_on : {A : Type 0} → Always {A = A} misfit misfit
misfit_on s = ends (amiss s) refl

-- from an earlier state
pub from : {A : Type 0} {s t : State} {o o' o'' : Outcome A} → Further t o o' o'' → Reaches s t → Further s o o' o''
from {s} {t} {o''} h r = ends (through s t (after o'') r h.grows) h.extends

-- cut off in the smaller place, whatever comes in the larger one
pub cut : {A : Type 0} {f f' : State → Outcome A} → Always f f' → Always Bound f'
cut h s = ends (h s).grows (h (more s)).grows

-- What goes on behind a piece: it is told behind each way to end, and behind the bound nothing is printed or entered.
pub onward : {A B : Type 0} {s : State} {o o' o'' : Outcome A} (F F' : Outcome A → Outcome B) → Further s o o' o''
    → ((a : A) (t : State) → Further t (F (Gives a t)) (F' (Gives a (more t))) (F' (Gives a t)))
    → ((k : ℕ) (t : State) → Further t (F (Threw k t)) (F' (Threw k (more t))) (F' (Threw k t)))
    → ((t : State) (x : Outcome B) → Reaches t (after x) → Extends (F (Bound t)) x)
    → ((t : State) → Reaches t (after (F' (Bound t))))
    → Further s (F o) (F' o') (F' o'')
onward {A} {B} {s} {o} {o'} {o''} F F' h gives threw bound still = ends (grown s o'' h.grows) (extended o o' h.extends)
  where
    grown : (s : State) (o : Outcome A) → Reaches s (after o) → Reaches s (after (F' o))
    grown s (Gives a t) r = through s t (after (F' (Gives a t))) r (gives a t).grows
    grown s (Threw k t) r = through s t (after (F' (Threw k t))) r (threw k t).grows
    grown s (Bound t) r = through s t (after (F' (Bound t))) r (still t)

    extended : (o o' : Outcome A) → Extends o o' → Extends (F o) (F' o')
    extended (Gives a t) o' e = subst (λ x. Extends (F (Gives a t)) (F' x)) (sym e) (gives a t).extends
    extended (Threw k t) o' e = subst (λ x. Extends (F (Threw k t)) (F' x)) (sym e) (threw k t).extends
    extended (Bound t) o' r = bound t (F' o') (grown t o' r)

-- ---- ways to go on

pub then_on : {A B : Type 0} {s : State} {o o' o'' : Outcome A} {f f' : A → State → Outcome B} → Further s o o' o'' → ((a : A) → Always (f a) (f' a))
    → Further s (and_then o f) (and_then o' f') (and_then o'' f')
then_on {f} {f'} h k = onward (λ o. and_then o f) (λ o. and_then o f') h k (λ x t. ends (kept t) refl) (λ t x r. r) kept

pub leave_on : {A : Type 0} {s : State} {o o' o'' : Outcome A} (f : Frame) → Further s o o' o'' → Further s (leave f o) (leave f o') (leave f o'')
leave_on f h = onward (leave f) (leave f) h (λ a t. ends (kept t) refl) (λ k t. ends (kept t) refl) (λ t x r. r) kept

pub goes_on : {f f' : State → Outcome Ending} (e : Ending) → Always f f' → Always (λ s. and_goes e s f) (λ s. and_goes e s f')
goes_on Goes h s = h s
goes_on Breaks h s = ends (kept s) refl
goes_on Continues h s = ends (kept s) refl
goes_on (Returns a) h s = ends (kept s) refl

pub turns_on : {f f' : State → Outcome Ending} (e : Ending) → Always f f' → Always (λ s. and_turns e s f) (λ s. and_turns e s f')
turns_on Goes h s = h s
turns_on Breaks h s = ends (kept s) refl
turns_on Continues h s = h s
turns_on (Returns a) h s = ends (kept s) refl

pub switch_on : {s : State} {o o' o'' : Outcome Ending} → Further s o o' o'' → Further s (behind_switch o) (behind_switch o') (behind_switch o'')
switch_on h = onward behind_switch behind_switch h gives (λ k t. ends (kept t) refl) (λ t x r. r) kept
  where
    gives : (e : Ending) (t : State) → Further t (behind_switch (Gives e t)) (behind_switch (Gives e (more t))) (behind_switch (Gives e t))
    gives Goes t = ends (kept t) refl
    gives Breaks t = ends (kept t) refl
    gives Continues t = ends (kept t) refl
    gives (Returns a) t = ends (kept t) refl

pub finally_on : {s : State} {o o' o'' : Outcome Ending} {f f' : State → Outcome Ending} → Further s o o' o'' → Always f f' → Further s (finally o f) (finally o' f') (finally o'' f')
finally_on {f} {f'} h k = onward (λ o. finally o f) (λ o. finally o f') h
    (λ e t. then_on (k t) (λ g t. goes_on g (λ t. ends (kept t) refl) t))
    (λ x t. then_on (k t) (λ g t. goes_on g (λ t. ends (kept t) refl) t)) (λ t x r. r) kept

pub rescued_on : {s : State} {o o' o'' : Outcome Ending} {f f' : ℕ → State → Outcome Ending} → Further s o o' o'' → ((k : ℕ) → Always (f k) (f' k))
    → Further s (rescued o f) (rescued o' f') (rescued o'' f')
rescued_on {f} {f'} h k = onward (λ o. rescued o f) (λ o. rescued o f') h (λ e t. ends (kept t) refl) k (λ t x r. r) kept

pub choose_on : {A : Type 0} {f f' g g' : State → Outcome A} (b : Bool) → Always f f' → Always g g' → Always (choose b f g) (choose b f' g')
choose_on true h k s = h s
choose_on false h k s = k s

-- where the smaller place has no step left, the larger one takes its last
pub step_on : {A : Type 0} {f f' : State → Outcome A} → Always f f' → Always (λ s. step s f) (λ s. step s f')
step_on {A} {f} {f'} h s = at s.left
  where
    at : (n : ℕ) → Further s (step_at n s f) (step_at (suc n) (more s) f') (step_at n s f')
    at zero = ends (kept s) (h (record s { left = zero })).grows
    at (suc n) = from (h (record s { left = n })) (kept s)

-- ---- loops

-- one turn, and what comes behind it
abbrev turn : (State → Outcome Bool) → (body rest : State → Outcome Ending) → State → Outcome Ending
turn before body rest s = and_then (before s) (λ b s. choose b (λ s. step s (λ s. and_then (body s) (λ e s. and_turns e s rest))) (λ s. Gives Goes s) s)

turn_on : {before before' : State → Outcome Bool} {body body' rest rest' : State → Outcome Ending} → Always before before' → Always body body' → Always rest rest'
    → Always (turn before body rest) (turn before' body' rest')
turn_on h k l s = then_on (h s) (λ b. choose_on b (step_on (λ s. then_on (k s) (λ e. turns_on e l))) (λ s. ends (kept s) refl))

-- in the larger place for a turn more
pub loop_on : {before before' : ℕ → State → Outcome Bool} {body body' : State → Outcome Ending} (n i : ℕ) → ((i : ℕ) → Always (before i) (before' i)) → Always body body'
    → Always (loop n i before body) (loop (suc n) i before' body')
loop_on zero i h k = cut (turn_on (h i) k (λ s. ends {o = Bound s} (kept s) (kept s)))
loop_on (suc n) i h k = turn_on (h i) k (loop_on n (suc i) h k)

-- the same with the test behind the body
abbrev do_turn : (body rest : State → Outcome Ending) → (State → Outcome Bool) → State → Outcome Ending
do_turn body rest test s = step s (λ s. and_then (body s) (λ e s. and_turns e s (λ s. and_then (test s) (λ b s. choose b rest (λ s. Gives Goes s) s))))

do_turn_on : {body body' rest rest' : State → Outcome Ending} {test test' : State → Outcome Bool} → Always body body' → Always rest rest' → Always test test'
    → Always (do_turn body rest test) (do_turn body' rest' test')
do_turn_on h k l = step_on (λ s. then_on (h s) (λ e. turns_on e (λ s. then_on (l s) (λ b. choose_on b k (λ s. ends (kept s) refl)))))

pub do_loop_on : {body body' : State → Outcome Ending} {test test' : State → Outcome Bool} (n : ℕ) → Always body body' → Always test test'
    → Always (do_loop n body test) (do_loop (suc n) body' test')
do_loop_on zero h l = cut (do_turn_on h (λ s. ends {o = Bound s} (kept s) (kept s)) l)
do_loop_on (suc n) h l = do_turn_on h (do_loop_on n h l) l
