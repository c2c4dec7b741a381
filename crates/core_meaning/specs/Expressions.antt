-- What an expression does, a clause a form (JLS 15). Operands are evaluated from left to right (15.7).
use Rattle.std.specs.Prelude.{ℕ, zero, suc, ℤ, pos, Bool, true, false, List, [], ◌∷◌, ◌++◌, map, length, replicate, Option, Some, None, slice_get, if◌then◌else◌, int_lt, unsigned_abs}
use Rattle.std.specs.List.{find}
use Rattle.std.specs.Option.{option_map}
use Rattle.java_tree.specs.declared.tree.BinOp.{BinOp}
use Rattle.class_world.specs.declared.world.MethodInfo.{MethodInfo}
use Rattle.class_world.specs.declared.world.JavaType.{JavaType}
use Rattle.java_core.specs.declared.expr.Kind.{Kind}
use Rattle.java_core.specs.Plain as e
use Rattle.type_kinds.specs.Kinds.{class_number, element}
use Rattle.core_meaning.specs.declared.values.Value.{Value}
use Rattle.core_meaning.specs.declared.values.Value.TheVariants as v
use Rattle.core_meaning.specs.declared.values.Variable.{Variable}
use Rattle.core_meaning.specs.declared.values.Variable.TheVariants as of
use Rattle.core_meaning.specs.declared.values.State.{State}
use Rattle.core_meaning.specs.declared.values.Thing.TheVariants.{Array}
use Rattle.core_meaning.specs.State.{item_count, with_thing, with_array}
use Rattle.core_meaning.specs.Numbers.{as_kind, operated, prefixed, stepped}
use Rattle.core_meaning.specs.Texts.{number_units}
use Rattle.core_meaning.specs.BuiltIns.{negative_array_size_exception}
use Rattle.core_meaning.specs.Outcome.{Outcome, Gives, and_then, throws_saying, misfit, with_some, with_reference, by_truth, with_made}
use Rattle.core_meaning.specs.Code.{default_value, new_object, is_join_of, joined_literal}
use Rattle.core_meaning.specs.Variables.{Place, fitted, implied_cast, cast, instance_of, read, store}
use Rattle.core_meaning.specs.Members.{new_text, literal, text_of, invoked, called}

abbrev pub said : e.Written → JavaType
said (e.AType n head t args) = t

-- a concatenation of literals is one literal
abbrev pub literal_or : Option (List ℕ) → (State → Outcome Value) → State → Outcome Value
literal_or None otherwise s = otherwise s
literal_or (Some units) otherwise s = literal units s

-- ---- what operators do with values

-- the left operand is converted first, then the right one (15.18.1)
abbrev pub joined : Place → Value → Value → State → Outcome Value
joined p a b s = and_then (text_of p a s) (λ xs s. and_then (text_of p b s) (λ ys s. new_text (xs ++ ys) s))

abbrev pub calculated : Bool → Place → BinOp → Value → Value → State → Outcome Value
calculated true p op a b s = joined p a b s
calculated false p op a b s = with_made (operated op a b) s (λ c. Gives c s)

-- a binary operator
abbrev pub binary : Place → BinOp → Kind → Value → Value → State → Outcome Value
binary p op k a b s = calculated (is_join_of op k) p op a b s

-- What a compound assignment gives its variable, of type t: the operator works on what it held, widened, and the result is narrowed (15.26.2).
abbrev pub compounded : Place → BinOp → Kind → JavaType → Value → Value → State → Outcome Value
compounded p op k t a b s = with_some (as_kind k a) s (λ a. and_then (binary p op k a b s) (λ c s. fitted t c s))

-- ---- arrays (15.10, 10.6)

abbrev pub ints_of : List Value → Option (List ℤ)
ints_of [] = Some []
ints_of (v.Int z ∷ xs) = option_map (λ zs. z ∷ zs) (ints_of xs)
ints_of _ = None

-- n values in a row
abbrev pub repeated : ℕ → (State → Outcome Value) → State → Outcome (List Value)
repeated zero one s = Gives [] s
repeated (suc n) one s = and_then (one s) (λ x s. and_then (repeated n one s) (λ xs s. Gives (x ∷ xs) s))

-- an array whose items are made after it: it has its number before them
abbrev pub array_with : JavaType → (length : ℕ) → (State → Outcome (List Value)) → State → Outcome Value
array_with t n items s =
    let r = length s.heap in
    and_then (items (with_thing (Array t (replicate n (default_value t))) s)) (λ xs s. Gives (v.Ref r) (with_array r t xs s))

-- arrays of these sizes, the outer before its inner ones; behind the last size stand first values
abbrev pub arrays_of : List ℕ → JavaType → State → Outcome Value
arrays_of [] t s = Gives (default_value t) s
arrays_of (n ∷ ns) t s = with_some (element t) s (λ u. array_with u n (repeated n (arrays_of ns u)) s)

abbrev pub unless_negative : Option ℤ → (State → Outcome Value) → State → Outcome Value
unless_negative None go s = go s
unless_negative (Some z) go s = throws_saying negative_array_size_exception (number_units z) s

-- all sizes are there; the first negative one throws
abbrev pub sized : JavaType → List Value → State → Outcome Value
sized t xs s = with_some (ints_of xs) s (λ zs. unless_negative (find (λ z. int_lt z (pos 0)) zs) (arrays_of (map unsigned_abs zs) t) s)

abbrev pub array_length : Value → State → Outcome Value
array_length a s = with_reference a s (λ r. with_some (item_count r s) s (λ n. Gives (v.Int (pos n)) s))

abbrev pub count : e.Exprs → ℕ
count e.End = 0
count (e.Also x xs) = suc (count xs)

-- ---- calls and objects

-- a static method: the type that declares it is initialised after the arguments (12.4.1)
abbrev pub called_static : Place → ℕ → List Value → State → Outcome Value
called_static p m xs s = with_some (slice_get p.code.world.methods m) s (λ (i : MethodInfo). and_then (p.initialise i.owner s) (λ u s. invoked p m v.Null xs s))

-- A new object (15.9.4): its class is initialised, it has its number, the arguments are evaluated, and then the constructor runs.
abbrev pub created : Place → Option ℕ → (constructor : ℕ) → (State → Outcome (List Value)) → State → Outcome Value
created p class m args s = with_some class s (λ k. and_then (p.initialise k s) (λ u s.
    let r = v.Ref (length s.heap) in
    and_then (args (with_thing (new_object p.code k) s)) (λ xs s. and_then (invoked p m r xs s) (λ a s. Gives r s))))

-- What a variable holds, with the casts that are implied where it is read.
abbrev mutual
  pub current : Place → e.Expr → Variable → State → Outcome Value
  current p (e.At n t x) y s = current_form p t x y s

  pub current_form : Place → JavaType → e.Form → Variable → State → Outcome Value
  current_form p t (e.Paren x) y s = current p x y s
  current_form p t (e.Implied x) y s = and_then (current p x y s) (implied_cast p t)
  current_form p t _ y s = read p y s

-- ---- the forms

abbrev mutual
  pub value : Place → e.Expr → State → Outcome Value
  value p (e.At n t x) s = value_form p t x s

  -- `t` is the expression's type
  pub value_form : Place → JavaType → e.Form → State → Outcome Value
  value_form p t (e.Int z) s = Gives (v.Int z) s
  value_form p t (e.Long z) s = Gives (v.Long z) s
  value_form p t (e.Char c) s = Gives (v.Char c) s
  value_form p t (e.Text units) s = literal units s
  value_form p t (e.Truth b) s = Gives (v.Truth b) s
  value_form p t e.Null s = Gives v.Null s
  value_form p t e.This s = Gives s.frame.this s
  value_form p t (e.Local k) s = read p (of.Local k) s
  value_form p t (e.Paren x) s = value p x s
  value_form p t (e.Widen x) s = and_then (value p x s) (fitted t)
  value_form p t (e.Implied x) s = and_then (value p x s) (implied_cast p t)
  value_form p t (e.Field x simple f) s = and_then (value p x s) (λ a s. read p (of.Field a f) s)
  value_form p t (e.SuperField f) s = read p (of.Field s.frame.this f) s
  value_form p t (e.StaticField before x f) s = and_then (dropped p x s) (λ u s. read p (of.Static f) s)
  value_form p t (e.Length x) s = and_then (value p x s) array_length
  value_form p t (e.Index x y) s = and_then (value p x s) (λ a s. and_then (value p y s) (λ i s. read p (of.Item a i) s))
  value_form p t (e.Call x simple m xs) s = and_then (value p x s) (λ a s. and_then (values p xs s) (λ ys s. called p m a ys s))
  value_form p t (e.SuperCall m xs) s = and_then (values p xs s) (λ ys s. invoked p m s.frame.this ys s)
  value_form p t (e.StaticCall before x m xs) s = and_then (dropped p x s) (λ u s. and_then (values p xs s) (called_static p m))
  value_form p t (e.New w m xs) s = created p (class_number (said w)) m (values p xs) s
  value_form p t (e.NewArray w xs) s = and_then (values p xs s) (sized t)
  value_form p t (e.NewFilled w x) s = value p x s
  value_form p t (e.Filled xs) s = with_some (element t) s (λ u. array_with u (count xs) (values p xs) s)
  value_form p t (e.Unary op x) s = and_then (value p x s) (λ a s. with_some (prefixed op a) s (λ b. Gives b s))
  value_form p t (e.Step up before x) s = and_then (variable p x s) (λ y s. and_then (current p x y s) (λ a s.
      with_some (stepped up a) s (λ b. and_then (store p y b s) (λ c s. Gives (if before then b else a) s))))
  value_form p t (e.Cast w close x) s = and_then (value p x s) (cast p (said w))
  value_form p t (e.Binary op k x y) s =
      literal_or (joined_literal op k x y) (λ s. and_then (value p x s) (λ a s. and_then (value p y s) (λ b s. binary p op k a b s))) s
  value_form p t (e.Logic true x y) s = and_then (value p x s) (λ a s. by_truth a (value p y) (λ s. Gives (v.Truth false) s) s)
  value_form p t (e.Logic false x y) s = and_then (value p x s) (λ a s. by_truth a (λ s. Gives (v.Truth true) s) (value p y) s)
  value_form p t (e.InstanceOf x w) s = and_then (value p x s) (instance_of p (said w))
  value_form p t (e.Cond x y z) s = and_then (value p x s) (λ a s. by_truth a (value p y) (value p z) s)
  value_form p t (e.Assign x y) s = and_then (variable p x s) (λ z s. and_then (value p y s) (λ a s. store p z a s))
  value_form p t (e.Compound op k x y) s = and_then (variable p x s) (λ z s. and_then (current p x z s) (λ a s. and_then (value p y s) (λ b s.
      and_then (compounded p op k t a b s) (λ c s. store p z c s))))

  pub values : Place → e.Exprs → State → Outcome (List Value)
  values p e.End s = Gives [] s
  values p (e.Also x xs) s = and_then (value p x s) (λ a s. and_then (values p xs s) (λ ys s. Gives (a ∷ ys) s))

  -- an expression before the dot of a static use: its value is dropped (15.11.1, 15.12.4.1)
  pub dropped : Place → e.MaybeExpr → State → Outcome (Unit {0})
  dropped p e.NoExpr s = Gives tt s
  dropped p (e.AnExpr x) s = and_then (value p x s) (λ a s. Gives tt s)

  -- the variable that an assignment or a step is for, with what stands before it evaluated (15.26.1)
  pub variable : Place → e.Expr → State → Outcome Variable
  variable p (e.At n t x) s = variable_form p x s

  pub variable_form : Place → e.Form → State → Outcome Variable
  variable_form p (e.Local k) s = Gives (of.Local k) s
  variable_form p (e.Field x simple f) s = and_then (value p x s) (λ a s. Gives (of.Field a f) s)
  variable_form p (e.SuperField f) s = Gives (of.Field s.frame.this f) s
  variable_form p (e.StaticField before x f) s = and_then (dropped p x s) (λ u s. Gives (of.Static f) s)
  variable_form p (e.Index x y) s = and_then (value p x s) (λ a s. and_then (value p y s) (λ i s. Gives (of.Item a i) s))
  variable_form p (e.Paren x) s = variable p x s
  variable_form p (e.Implied x) s = variable p x s
  variable_form p _ s = misfit s
