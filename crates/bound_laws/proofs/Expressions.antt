-- Expressions in two places of one program, a line a form.
use Rattle.std.proofs.Common.{ℕ, zero, suc, Bool, true, false, List, [], ◌∷◌, map, replicate, Option, Some, None, ℤ, refl}
use Rattle.std.specs.Prelude.{length, pos, slice_get, int_lt, unsigned_abs}
use Rattle.std.specs.List.{find}
use Rattle.java_tree.specs.declared.tree.BinOp.{BinOp}
use Rattle.class_world.specs.declared.world.JavaType.{JavaType}
use Rattle.java_core.specs.declared.expr.Kind.{Kind}
use Rattle.java_core.specs.Plain as e
use Rattle.type_kinds.specs.Kinds.{class_number, element}
use Rattle.core_meaning.specs.declared.values.Value.{Value}
use Rattle.core_meaning.specs.declared.values.Value.TheVariants as v
use Rattle.core_meaning.specs.declared.values.Variable.{Variable}
use Rattle.core_meaning.specs.declared.values.Variable.TheVariants as of
use Rattle.core_meaning.specs.declared.values.State.{State}
use Rattle.core_meaning.specs.declared.values.Thing.TheVariants.{Array}
use Rattle.core_meaning.specs.State.{item_count, with_thing}
use Rattle.core_meaning.specs.Numbers.{as_kind, operated, prefixed, stepped}
use Rattle.core_meaning.specs.Outcome.{Outcome}
use Rattle.core_meaning.specs.Code.{default_value, new_object, is_join_of, joined_literal}
use Rattle.core_meaning.specs.Expressions.{said, literal_or, joined, calculated, binary, compounded, ints_of, repeated, array_with, arrays_of, unless_negative, sized, array_length, count, called_static, created, current, current_form, value, value_form, values, dropped, variable, variable_form}
use Rattle.bound_laws.proofs.Further.{Always, kept, amiss, ends, from, then_on}
use Rattle.bound_laws.proofs.Primitives.{Places, low, high, some_on, reference_on, truth_on, made_on, fitted_on, implied_cast_on, cast_on, instance_of_on, read_on, store_on}
use Rattle.bound_laws.proofs.Members.{literal_on, text_of_on, invoked_on, called_on}

literal_or_on : {f f' : State → Outcome Value} (o : Option (List ℕ)) → Always f f' → Always (literal_or o f) (literal_or o f')
literal_or_on None h s = h s
literal_or_on (Some units) h s = literal_on units s

-- ---- arrays

repeated_on : {f f' : State → Outcome Value} (n : ℕ) → Always f f' → Always (repeated n f) (repeated n f')
repeated_on zero h s = ends (kept s) refl
repeated_on (suc n) h s = then_on (h s) (λ x s. then_on (repeated_on n h s) (λ xs s. ends (kept s) refl))

array_with_on : {f f' : State → Outcome (List Value)} (t : JavaType) (n : ℕ) → Always f f' → Always (array_with t n f) (array_with t n f')
array_with_on t n h s = then_on (from (h (with_thing (Array t (replicate n (default_value t))) s)) (kept s)) (λ xs s. ends (kept s) refl)

arrays_of_on : (ns : List ℕ) (t : JavaType) → Always (arrays_of ns t) (arrays_of ns t)
arrays_of_on [] t s = ends (kept s) refl
arrays_of_on (n ∷ ns) t s = some_on (element t) (λ u. array_with_on u n (repeated_on n (λ s. arrays_of_on ns u s)) s)

unless_negative_on : {f f' : State → Outcome Value} (o : Option ℤ) → Always f f' → Always (unless_negative o f) (unless_negative o f')
unless_negative_on None h s = h s
unless_negative_on (Some z) h s = ends (kept s) refl

sized_on : (t : JavaType) (xs : List Value) → Always (sized t xs) (sized t xs)
sized_on t xs s = some_on (ints_of xs) (λ zs. unless_negative_on (find (λ z. int_lt z (pos 0)) zs) (λ s. arrays_of_on (map unsigned_abs zs) t s) s)

array_length_on : (a : Value) → Always (array_length a) (array_length a)
array_length_on a s = reference_on a (λ r. some_on (item_count r s) (λ n. ends (kept s) refl))

module _ (q : Places) where
  -- ---- what operators do with values

  joined_on : (a b : Value) → Always (joined (low q) a b) (joined (high q) a b)
  joined_on a b s = then_on (text_of_on q a s) (λ xs s. then_on (text_of_on q b s) (λ ys s. ends (kept s) refl))

  calculated_on : (x : Bool) (op : BinOp) (a b : Value) → Always (calculated x (low q) op a b) (calculated x (high q) op a b)
  calculated_on true op a b s = joined_on a b s
  calculated_on false op a b s = made_on (operated op a b) (λ c. ends (kept s) refl)

  binary_on : (op : BinOp) (k : Kind) (a b : Value) → Always (binary (low q) op k a b) (binary (high q) op k a b)
  binary_on op k a b s = calculated_on (is_join_of op k) op a b s

  compounded_on : (op : BinOp) (k : Kind) (t : JavaType) (a b : Value) → Always (compounded (low q) op k t a b) (compounded (high q) op k t a b)
  compounded_on op k t a b s = some_on (as_kind k a) (λ a. then_on (binary_on op k a b s) (λ c s. fitted_on t c s))

  -- ---- calls and objects

  called_static_on : (m : ℕ) (xs : List Value) → Always (called_static (low q) m xs) (called_static (high q) m xs)
  called_static_on m xs s = some_on (slice_get q.code.world.methods m) (λ i. then_on (q.initialises i.owner s) (λ u s. invoked_on q m v.Null xs s))

  created_on : {f f' : State → Outcome (List Value)} (class : Option ℕ) (m : ℕ) → Always f f' → Always (created (low q) class m f) (created (high q) class m f')
  created_on class m h s = some_on class (λ k. then_on (q.initialises k s) (λ u s. then_on (from (h (with_thing (new_object q.code k) s)) (kept s)) (λ xs t.
      then_on (invoked_on q m (v.Ref (length s.heap)) xs t) (λ a s. ends (kept s) refl))))

  mutual
    current_on : (x : e.Expr) (y : Variable) → Always (current (low q) x y) (current (high q) x y)
    current_on (e.At n t x) y s = current_form_on t x y s

    current_form_on : (t : JavaType) (x : e.Form) (y : Variable) → Always (current_form (low q) t x y) (current_form (high q) t x y)
    current_form_on t (e.Paren x) y s = current_on x y s
    current_form_on t (e.Implied x) y s = then_on (current_on x y s) (λ a s. implied_cast_on q t a s)
    current_form_on t _ y s = read_on q y s

  -- ---- the forms

  mutual
    pub value_on : (x : e.Expr) → Always (value (low q) x) (value (high q) x)
    value_on (e.At n t x) s = form_on t x s

    form_on : (t : JavaType) (x : e.Form) → Always (value_form (low q) t x) (value_form (high q) t x)
    form_on t (e.Int z) s = ends (kept s) refl
    form_on t (e.Long z) s = ends (kept s) refl
    form_on t (e.Char c) s = ends (kept s) refl
    form_on t (e.Text units) s = literal_on units s
    form_on t (e.Truth b) s = ends (kept s) refl
    form_on t e.Null s = ends (kept s) refl
    form_on t e.This s = ends (kept s) refl
    form_on t (e.Local k) s = read_on q (of.Local k) s
    form_on t (e.Paren x) s = value_on x s
    form_on t (e.Widen x) s = then_on (value_on x s) (λ a s. fitted_on t a s)
    form_on t (e.Implied x) s = then_on (value_on x s) (λ a s. implied_cast_on q t a s)
    form_on t (e.Field x simple f) s = then_on (value_on x s) (λ a s. read_on q (of.Field a f) s)
    form_on t (e.SuperField f) s = read_on q (of.Field s.frame.this f) s
    form_on t (e.StaticField before x f) s = then_on (dropped_on x s) (λ u s. read_on q (of.Static f) s)
    form_on t (e.Length x) s = then_on (value_on x s) (λ a s. array_length_on a s)
    form_on t (e.Index x y) s = then_on (value_on x s) (λ a s. then_on (value_on y s) (λ i s. read_on q (of.Item a i) s))
    form_on t (e.Call x simple m xs) s = then_on (value_on x s) (λ a s. then_on (values_on xs s) (λ ys s. called_on q m a ys s))
    form_on t (e.SuperCall m xs) s = then_on (values_on xs s) (λ ys s. invoked_on q m s.frame.this ys s)
    form_on t (e.StaticCall before x m xs) s = then_on (dropped_on x s) (λ u s. then_on (values_on xs s) (λ ys s. called_static_on m ys s))
    form_on t (e.New w m xs) s = created_on (class_number (said w)) m (λ s. values_on xs s) s
    form_on t (e.NewArray w xs) s = then_on (values_on xs s) (λ ys s. sized_on t ys s)
    form_on t (e.NewFilled w x) s = value_on x s
    form_on t (e.Filled xs) s = some_on (element t) (λ u. array_with_on u (count xs) (λ s. values_on xs s) s)
    form_on t (e.Unary op x) s = then_on (value_on x s) (λ a s. some_on (prefixed op a) (λ b. ends (kept s) refl))
    form_on t (e.Step up before x) s =
        then_on (variable_on x s) (λ y s. then_on (current_on x y s) (λ a s. some_on (stepped up a) (λ b. then_on (store_on q y b s) (λ c s. ends (kept s) refl))))
    form_on t (e.Cast w close x) s = then_on (value_on x s) (λ a s. cast_on q (said w) a s)
    form_on t (e.Binary op k x y) s =
        literal_or_on (joined_literal op k x y) (λ s. then_on (value_on x s) (λ a s. then_on (value_on y s) (λ b s. binary_on op k a b s))) s
    form_on t (e.Logic true x y) s = then_on (value_on x s) (λ a s. truth_on a (λ s. value_on y s) (λ s. ends (kept s) refl) s)
    form_on t (e.Logic false x y) s = then_on (value_on x s) (λ a s. truth_on a (λ s. ends (kept s) refl) (λ s. value_on y s) s)
    form_on t (e.InstanceOf x w) s = then_on (value_on x s) (λ a s. instance_of_on q (said w) a s)
    form_on t (e.Cond x y z) s = then_on (value_on x s) (λ a s. truth_on a (λ s. value_on y s) (λ s. value_on z s) s)
    form_on t (e.Assign x y) s = then_on (variable_on x s) (λ z s. then_on (value_on y s) (λ a s. store_on q z a s))
    form_on t (e.Compound op k x y) s = then_on (variable_on x s) (λ z s. then_on (current_on x z s) (λ a s. then_on (value_on y s) (λ b s.
        then_on (compounded_on op k t a b s) (λ c s. store_on q z c s))))

    pub values_on : (xs : e.Exprs) → Always (values (low q) xs) (values (high q) xs)
    values_on e.End s = ends (kept s) refl
    values_on (e.Also x xs) s = then_on (value_on x s) (λ a s. then_on (values_on xs s) (λ ys s. ends (kept s) refl))

    dropped_on : (x : e.MaybeExpr) → Always (dropped (low q) x) (dropped (high q) x)
    dropped_on e.NoExpr s = ends (kept s) refl
    dropped_on (e.AnExpr x) s = then_on (value_on x s) (λ a s. ends (kept s) refl)

    variable_on : (x : e.Expr) → Always (variable (low q) x) (variable (high q) x)
    variable_on (e.At n t x) s = variable_form_on x s

    variable_form_on : (x : e.Form) → Always (variable_form (low q) x) (variable_form (high q) x)
    variable_form_on (e.Local k) s = ends (kept s) refl
    variable_form_on (e.Field x simple f) s = then_on (value_on x s) (λ a s. ends (kept s) refl)
    variable_form_on (e.SuperField f) s = ends (kept s) refl
    variable_form_on (e.StaticField before x f) s = then_on (dropped_on x s) (λ u s. ends (kept s) refl)
    variable_form_on (e.Index x y) s = then_on (value_on x s) (λ a s. then_on (value_on y s) (λ i s. ends (kept s) refl))
    variable_form_on (e.Paren x) s = variable_on x s
    variable_form_on (e.Implied x) s = variable_on x s
    variable_form_on _ s = ends (amiss s) refl
