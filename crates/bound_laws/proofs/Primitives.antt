-- Going on with what is there, casts and variables, in two places of one program of which the larger has a step, a turn and a depth more.
use Rattle.std.proofs.Common.{ℕ, suc, Bool, true, false, List, Option, Some, None, ℤ, refl}
use Rattle.std.specs.Prelude.{slice_get}
use Rattle.java_tree.specs.declared.tree.Primitive.{Primitive}
use Rattle.class_world.specs.declared.world.JavaType.{JavaType}
use Rattle.type_kinds.specs.Kinds.{primitive}
use Rattle.type_kinds.specs.Members.{field_at}
use Rattle.core_meaning.specs.declared.values.Value.{Value}
use Rattle.core_meaning.specs.declared.values.Value.TheVariants as v
use Rattle.core_meaning.specs.declared.values.Variable.{Variable}
use Rattle.core_meaning.specs.declared.values.Variable.TheVariants as x
use Rattle.core_meaning.specs.declared.values.Made.{Made}
use Rattle.core_meaning.specs.declared.values.Made.TheVariants.{Makes, ByZero, NoRule}
use Rattle.core_meaning.specs.declared.values.State.{State}
use Rattle.core_meaning.specs.Outcome.{Outcome, with_some, with_reference, unless_null, with_units, with_int, by_truth, with_made}
use Rattle.core_meaning.specs.State.{in_slot, in_static, field_of, element_of, item_count, item_of}
use Rattle.core_meaning.specs.Numbers.{as_primitive}
use Rattle.core_meaning.specs.BuiltIns.{class_cast_exception, array_store_exception}
use Rattle.core_meaning.specs.Code.{Code, is_constant}
use Rattle.core_meaning.specs.Classes.{type_of}
use Rattle.core_meaning.specs.Variables.{Place, fitted_by, fitted, is_below, cast_or, implied_cast, cast_by, cast, instance_of, index_in, at_place, at_item, may_hold, storable_by, ready_by, ready, read, store}
use Rattle.bound_laws.proofs.Further.{Further, Always, kept, amiss, more, ends, gives_on, throws_on, misfit_on, then_on, choose_on}

-- ---- the two places

-- What calls and initialisations do in each of them: in the second one they go on from the first.
pub record Places : Type 0 where
  pub code : Code
  pub class : ℕ
  pub call : (method : ℕ) → (this : Value) → List Value → State → Outcome Value
  pub call' : (method : ℕ) → (this : Value) → List Value → State → Outcome Value
  pub initialise : (type : ℕ) → State → Outcome (Unit {0})
  pub initialise' : (type : ℕ) → State → Outcome (Unit {0})
  pub turns : ℕ
  pub calls : (m : ℕ) (a : Value) (xs : List Value) → Always (call m a xs) (call' m a xs)
  pub initialises : (k : ℕ) → Always (initialise k) (initialise' k)

abbrev pub low : Places → Place
low q = record { code = q.code; class = q.class; call = q.call; initialise = q.initialise; turns = q.turns }

abbrev pub high : Places → Place
high q = record { code = q.code; class = q.class; call = q.call'; initialise = q.initialise'; turns = suc q.turns }

-- ---- going on with what is there

pub some_on : {A B : Type 0} {s : State} {f f' f'' : A → Outcome B} (o : Option A) → ((a : A) → Further s (f a) (f' a) (f'' a))
    → Further s (with_some o s f) (with_some o (more s) f') (with_some o s f'')
some_on {s} None h = ends (amiss s) refl
some_on (Some a) h = h a

pub reference_on : {B : Type 0} {s : State} {f f' f'' : ℕ → Outcome B} (a : Value) → ((r : ℕ) → Further s (f r) (f' r) (f'' r))
    → Further s (with_reference a s f) (with_reference a (more s) f') (with_reference a s f'')
reference_on {s} v.Null h = ends (kept s) refl
reference_on (v.Ref r) h = h r
reference_on {s} _ h = ends (amiss s) refl

pub unless_null_on : {B : Type 0} {s : State} {o o' o'' : Outcome B} (a : Value) → Further s o o' o'' → Further s (unless_null a s o) (unless_null a (more s) o') (unless_null a s o'')
unless_null_on {s} v.Null h = ends (kept s) refl
unless_null_on _ h = h

pub units_on : {B : Type 0} {s : State} {f f' f'' : List ℕ → Outcome B} (a : Value) → ((units : List ℕ) → Further s (f units) (f' units) (f'' units))
    → Further s (with_units a s f) (with_units a (more s) f') (with_units a s f'')
units_on {s} v.Null h = ends (kept s) refl
units_on {s} (v.Text k) h = some_on (slice_get s.texts k) h
units_on {s} _ h = ends (amiss s) refl

pub int_on : {B : Type 0} {s : State} {f f' f'' : ℤ → Outcome B} (a : Value) → ((z : ℤ) → Further s (f z) (f' z) (f'' z))
    → Further s (with_int a s f) (with_int a (more s) f') (with_int a s f'')
int_on (v.Int z) h = h z
int_on {s} _ h = ends (amiss s) refl

pub truth_on : {B : Type 0} {f f' g g' : State → Outcome B} (a : Value) → Always f f' → Always g g' → Always (by_truth a f g) (by_truth a f' g')
truth_on (v.Truth b) h k s = choose_on b h k s
truth_on _ h k s = ends (amiss s) refl

pub made_on : {B : Type 0} {s : State} {f f' f'' : Value → Outcome B} (o : Made) → ((a : Value) → Further s (f a) (f' a) (f'' a))
    → Further s (with_made o s f) (with_made o (more s) f') (with_made o s f'')
made_on (Makes a) h = h a
made_on {s} ByZero h = ends (kept s) refl
made_on {s} NoRule h = ends (amiss s) refl

-- ---- casts

pub fitted_on : (t : JavaType) (a : Value) → Always (fitted t a) (fitted t a)
fitted_on t a s = some_on (fitted_by (primitive t) a) (λ b. gives_on b s)

-- the place of an item
place_on : {B : Type 0} {s : State} {f f' f'' : ℕ → Outcome B} (o : Option ℕ) (z : ℤ) → ((k : ℕ) → Further s (f k) (f' k) (f'' k))
    → Further s (at_place o z s f) (at_place o z (more s) f') (at_place o z s f'')
place_on {s} None z h = ends (kept s) refl
place_on (Some k) z h = h k

item_on : {B : Type 0} {s : State} {f f' f'' : ℕ → ℕ → Outcome B} (a i : Value) → ((r k : ℕ) → Further s (f r k) (f' r k) (f'' r k))
    → Further s (at_item a i s f) (at_item a i (more s) f') (at_item a i s f'')
item_on {s} a i h = reference_on a (λ r. some_on (item_count r s) (λ n. int_on i (λ z. place_on (index_in z n) z (h r))))

may_hold_on : {f f' : State → Outcome Value} (c : Code) (t : JavaType) (a : Value) → Always f f' → Always (λ s. may_hold c t a s f) (λ s. may_hold c t a s f')
may_hold_on c t v.Null h s = h s
may_hold_on c t a h s = some_on (type_of a s) (λ u. choose_on (is_below c u t) h (throws_on array_store_exception) s)

storable_by_on : {f f' : State → Outcome Value} (o : Option Primitive) (c : Code) (t : JavaType) (a : Value) → Always f f' → Always (λ s. storable_by o c t a s f) (λ s. storable_by o c t a s f')
storable_by_on None c t a h s = may_hold_on c t a h s
storable_by_on (Some p) c t a h s = h s

module _ (q : Places) where
  cast_or_on : {f f' : State → Outcome Value} (t : JavaType) (a : Value) → Always f f' → Always (λ s. cast_or (low q) t a s f) (λ s. cast_or (high q) t a s f')
  cast_or_on t v.Null h s = ends (kept s) refl
  cast_or_on t a h s = some_on (type_of a s) (λ u. choose_on (is_below q.code u t) (gives_on a) h s)

  pub implied_cast_on : (t : JavaType) (a : Value) → Always (implied_cast (low q) t a) (implied_cast (high q) t a)
  implied_cast_on t a s = cast_or_on t a misfit_on s

  cast_by_on : (o : Option Primitive) (t : JavaType) (a : Value) → Always (cast_by o (low q) t a) (cast_by o (high q) t a)
  cast_by_on None t a s = cast_or_on t a (throws_on class_cast_exception) s
  cast_by_on (Some p) t a s = some_on (as_primitive p a) (λ b. gives_on b s)

  pub cast_on : (t : JavaType) (a : Value) → Always (cast (low q) t a) (cast (high q) t a)
  cast_on t a s = cast_by_on (primitive t) t a s

  pub instance_of_on : (t : JavaType) (a : Value) → Always (instance_of (low q) t a) (instance_of (high q) t a)
  instance_of_on t v.Null s = ends (kept s) refl
  instance_of_on t a s = some_on (type_of a s) (λ u. gives_on (v.Truth (is_below q.code u t)) s)

  -- ---- variables

  ready_by_on : (b : Bool) (f : ℕ) → Always (ready_by b (low q) f) (ready_by b (high q) f)
  ready_by_on true f s = ends (kept s) refl
  ready_by_on false f s = some_on (field_at q.code.world f) (λ i. q.initialises i.owner s)

  ready_on : (f : ℕ) → Always (ready (low q) f) (ready (high q) f)
  ready_on f s = ready_by_on (is_constant q.code f) f s

  pub read_on : (y : Variable) → Always (read (low q) y) (read (high q) y)
  read_on (x.Local k) s = some_on (in_slot k s.frame) (λ a. gives_on a s)
  read_on (x.Field of f) s = reference_on of (λ r. some_on (field_of r f s) (λ a. gives_on a s))
  read_on (x.Static f) s = then_on (ready_on f s) (λ u s. some_on (in_static f s) (λ a. gives_on a s))
  read_on (x.Item of at) s = item_on of at (λ r k. some_on (item_of r k s) (λ a. gives_on a s))

  pub store_on : (y : Variable) (a : Value) → Always (store (low q) y a) (store (high q) y a)
  store_on (x.Local k) a s = ends (kept s) refl
  store_on (x.Field of f) a s = reference_on of (λ r. some_on (field_of r f s) (λ old. ends (kept s) refl))
  store_on (x.Static f) a s = then_on (ready_on f s) (λ u s. some_on (in_static f s) (λ old. ends (kept s) refl))
  store_on (x.Item of at) a s = item_on of at (λ r k. some_on (element_of r s) (λ t. storable_by_on (primitive t) q.code t a (λ s. ends (kept s) refl) s))
