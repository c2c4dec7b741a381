-- Forms of expressions, read by their parts.
use Rattle.std.proofs.Common.{◌≡◌, ℕ, Bool, true, false, List, Option, Some, None, Bor, refl, sym, ap, ◌∙◌}
use Rattle.java_core.specs.declared.expr.Before.{Before}
use Rattle.java_core.specs.declared.expr.CoreExpr.{CoreExpr}
use Rattle.java_core.specs.declared.expr.CoreForm.{CoreForm, out-CoreForm}
use Rattle.java_core.specs.declared.expr.CoreForm.TheOpen as f
use Rattle.java_core.specs.declared.expr.CoreForm.TheVariants as v
use Rattle.java_core.specs.declared.expr.CoreForm.TheFolds.{map-CoreForm}
use Rattle.java_core.specs.declared.written.CoreType.{CoreType, out-CoreType}
use Rattle.java_core.specs.Plain as e
use Rattle.java_core.specs.View.{at_form, form_plain, plain, plains, written}
use Rattle.java_core.proofs.Views.{form_out, plain_at, type_out}
use Rattle.core_meaning.specs.declared.values.State.{State}
use Rattle.core_meaning.specs.declared.values.Value.{Value}
use Rattle.core_meaning.specs.declared.values.Value.TheVariants as val
use Rattle.core_meaning.specs.declared.values.Variable.{Variable}
use Rattle.core_meaning.specs.declared.values.Variable.TheVariants as var
use Rattle.core_meaning.specs.Outcome.{Outcome, Gives, and_then, by_truth}
use Rattle.core_meaning.specs.Variables.{Place}
use Rattle.core_meaning.specs.Expressions.{called_static, current, current_form, said, value, value_form, values, variable, variable_form}
use Rattle.run_frames.specs.declared.focus.Answer.{Answer}
use Rattle.run_frames.specs.declared.waits.ForValue.TheVariants as for_value
use Rattle.run_frames.specs.Frames.{a_variable, all_valued, and_value, and_values, and_variable, on_value, valued}
use Rattle.run_frames.proofs.Outcomes.{two_ways}
use Rattle.run_expressions.specs.Parts.{behind}

abbrev pub level : f.CoreForm-F CoreForm CoreExpr → e.Form
level L = at_form (map-CoreForm CoreForm CoreExpr e.Form e.Expr form_plain plain L)

-- x has a form whose parts L has
pub shaped : (x : CoreExpr) (y : CoreForm) (L : f.CoreForm-F CoreForm CoreExpr) → x.form ≡ y → out-CoreForm y ≡ L → plain x ≡ e.At x.node x.ty (level L)
shaped x y L is out = plain_at x ∙ ap (e.At x.node x.ty) (ap form_plain is ∙ form_out y ∙ ap level out)

-- the type that is written
pub said_written : (w : CoreType) → (out-CoreType w).ty ≡ said (written w)
said_written w = sym (ap said (type_out w))

module _ (p : Place) (s : State) (x : CoreExpr) (y : CoreForm) (L : f.CoreForm-F CoreForm CoreExpr) (is : x.form ≡ y) (out : out-CoreForm y ≡ L) where
  -- the value of an expression is that of its form
  pub at_once : valued (value_form p x.ty (level L) s) ≡ valued (value p (plain x) s)
  at_once = sym (ap (λ z. valued (value p z s)) (shaped x y L is out))

  -- a part is evaluated first, and then there is more to do
  pub first : (of part : CoreExpr) (f : Value → State → Outcome Value) (k : Value → State → Outcome Answer)
      → of ≡ part → value_form p x.ty (level L) s ≡ and_then (value p (plain part) s) f → ((a : Value) (s : State) → k a s ≡ valued (f a s))
      → and_value (valued (value p (plain of) s)) k ≡ valued (value p (plain x) s)
  first of part f k same form more =
      ap (λ z. and_value (valued (value p (plain z) s)) k) same
      ∙ two_ways (value p (plain part) s) _ _ _ _ more
      ∙ ap valued (sym form)
      ∙ at_once

  -- another expression has its value
  pub within : (of part : CoreExpr) → of ≡ part → value_form p x.ty (level L) s ≡ value p (plain part) s → valued (value p (plain of) s) ≡ valued (value p (plain x) s)
  within of part same form = ap (λ z. valued (value p (plain z) s)) same ∙ ap valued (sym form) ∙ at_once

  -- arguments are evaluated first
  pub all_first : (args : List CoreExpr) (f : List Value → State → Outcome Value) (k : List Value → State → Outcome Answer)
      → value_form p x.ty (level L) s ≡ and_then (values p (plains args) s) f → ((ys : List Value) (s : State) → k ys s ≡ valued (f ys s))
      → and_values (all_valued (values p (plains args) s)) k ≡ valued (value p (plain x) s)
  all_first args f k form more = two_ways (values p (plains args) s) _ _ _ _ more ∙ ap valued (sym form) ∙ at_once

  -- a variable is found first
  pub found_first : (of part : CoreExpr) (f : Variable → State → Outcome Value) (k : Variable → State → Outcome Answer)
      → of ≡ part → value_form p x.ty (level L) s ≡ and_then (variable p (plain part) s) f → ((z : Variable) (s : State) → k z s ≡ valued (f z s))
      → and_variable (a_variable (variable p (plain of) s)) k ≡ valued (value p (plain x) s)
  found_first of part f k same form more =
      ap (λ z. and_variable (a_variable (variable p (plain z) s)) k) same
      ∙ two_ways (variable p (plain part) s) _ _ _ _ more
      ∙ ap valued (sym form)
      ∙ at_once

  pub variable_at_once : a_variable (variable_form p (level L) s) ≡ a_variable (variable p (plain x) s)
  variable_at_once = sym (ap (λ z. a_variable (variable p z s)) (shaped x y L is out))

  -- a part is evaluated before the variable is there
  pub variable_first : (of part : CoreExpr) (f : Value → State → Outcome Variable) (k : Value → State → Outcome Answer)
      → of ≡ part → variable_form p (level L) s ≡ and_then (value p (plain part) s) f → ((a : Value) (s : State) → k a s ≡ a_variable (f a s))
      → and_value (valued (value p (plain of) s)) k ≡ a_variable (variable p (plain x) s)
  variable_first of part f k same form more =
      ap (λ z. and_value (valued (value p (plain z) s)) k) same
      ∙ two_ways (value p (plain part) s) _ _ _ _ more
      ∙ ap a_variable (sym form)
      ∙ variable_at_once

  pub variable_within : (of part : CoreExpr) → of ≡ part → variable_form p (level L) s ≡ variable p (plain part) s
      → a_variable (variable p (plain of) s) ≡ a_variable (variable p (plain x) s)
  variable_within of part same form = ap (λ z. a_variable (variable p (plain z) s)) same ∙ ap a_variable (sym form) ∙ variable_at_once

  -- what a part holds is read first
  pub current_first : (z : Variable) (of part : CoreExpr) (f : Value → State → Outcome Value) (k : Value → State → Outcome Answer)
      → of ≡ part → current_form p x.ty (level L) z s ≡ and_then (current p (plain part) z s) f → ((a : Value) (s : State) → k a s ≡ valued (f a s))
      → and_value (valued (current p (plain of) z s)) k ≡ valued (current p (plain x) z s)
  current_first z of part f k same form more =
      ap (λ y. and_value (valued (current p (plain y) z s)) k) same
      ∙ two_ways (current p (plain part) z s) _ _ _ _ more
      ∙ ap valued (sym form)
      ∙ sym (ap (λ y. valued (current p y z s)) (shaped x y L is out))

module _ (p : Place) (s : State) (x : CoreExpr) where
  -- where an option is inside

  pub static_call : (b : Before) (of : Option CoreExpr) (m : ℕ) (xs : List CoreExpr) → x.form ≡ v.StaticCall b of m xs
      → valued (behind p of (λ s. and_then (values p (plains xs) s) (called_static p m)) s) ≡ valued (value p (plain x) s)
  static_call b None m xs is = at_once p s x (v.StaticCall b None m xs) (f.StaticCall b None m xs) is (v.outs-StaticCall b None m xs)
  static_call b (Some y) m xs is = at_once p s x (v.StaticCall b (Some y) m xs) (f.StaticCall b (Some y) m xs) is (v.outs-StaticCall b (Some y) m xs)

  pub static_variable : (b : Before) (of : Option CoreExpr) (k : ℕ) → x.form ≡ v.StaticField b of k
      → a_variable (behind p of (λ s. Gives (var.Static k) s) s) ≡ a_variable (variable p (plain x) s)
  static_variable b None k is = variable_at_once p s x (v.StaticField b None k) (f.StaticField b None k) is (v.outs-StaticField b None k)
  static_variable b (Some y) k is = variable_at_once p s x (v.StaticField b (Some y) k) (f.StaticField b (Some y) k) is (v.outs-StaticField b (Some y) k)

  -- where two clauses stand for one form
  pub logic : (of : CoreExpr) (both : Bool) (a b : CoreExpr) (right : Bor CoreExpr) → x.form ≡ v.Logic both a b → of ≡ a → right.now ≡ b
      → and_value (valued (value p (plain of) s)) (on_value p (for_value.Logic both right)) ≡ valued (value p (plain x) s)
  logic of true a b right is same at = first p s x (v.Logic true a b) (f.Logic true a b) is (v.outs-Logic true a b) of a _ _ same refl
      (λ c s. ap (λ y. valued (by_truth c (value p (plain y)) (λ s. Gives (val.Truth false) s) s)) at)
  logic of false a b right is same at = first p s x (v.Logic false a b) (f.Logic false a b) is (v.outs-Logic false a b) of a _ _ same refl
      (λ c s. ap (λ y. valued (by_truth c (λ s. Gives (val.Truth true) s) (value p (plain y)) s)) at)
