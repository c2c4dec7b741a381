-- What is done first, and what is done with it.
use Rattle.std.proofs.Common.{◌≡◌, ℕ, List, [], ◌∷◌, ◌++◌, Option, Some, None, refl, sym, ap, ◌∙◌, append_assoc}
use Rattle.java_tree.specs.declared.tree.BinOp.{BinOp}
use Rattle.java_core.specs.declared.expr.CoreExpr.{CoreExpr}
use Rattle.java_core.specs.declared.expr.Kind.{Kind}
use Rattle.java_core.specs.Plain as e
use Rattle.java_core.specs.View.{plain, plains}
use Rattle.core_meaning.specs.declared.values.State.{State}
use Rattle.core_meaning.specs.declared.values.Value.{Value}
use Rattle.core_meaning.specs.Outcome.{Outcome, Gives, Threw, Bound, and_then}
use Rattle.core_meaning.specs.Code.{joined_literal}
use Rattle.core_meaning.specs.Variables.{Place}
use Rattle.core_meaning.specs.Expressions.{binary, called_static, dropped, literal_or, value, values}
use Rattle.run_frames.specs.declared.focus.Answer.{Answer}
use Rattle.run_frames.specs.declared.focus.Answer.TheVariants as an
use Rattle.run_frames.specs.declared.waits.ForNothing.{ForNothing}
use Rattle.run_frames.specs.declared.waits.ForValue.TheVariants as for_value
use Rattle.run_frames.specs.Frames.{all_valued, and_nothing, and_value, and_values, nothing, on_nothing, on_value, valued}
use Rattle.run_frames.proofs.Outcomes.{two_ways}
use Rattle.run_expressions.specs.Parts.{behind, of_operands}

module _ (p : Place) where
  pub dropping : (x : e.Expr) (w : ForNothing) (s : State)
      → and_nothing (and_value (valued (value p x s)) (on_value p for_value.Drop)) (on_nothing p w) ≡ and_nothing (nothing (dropped p (e.AnExpr x) s)) (on_nothing p w)
  dropping x w s = ends (value p x s)
    where
      ends : (o : Outcome Value) → and_nothing (and_value (valued o) (on_value p for_value.Drop)) (on_nothing p w) ≡ and_nothing (nothing (and_then o (λ a s. Gives tt s))) (on_nothing p w)
      ends (Gives a s) = refl
      ends (Threw k s) = refl
      ends (Bound s) = refl

  pub no_literal : (op : BinOp) (k : Kind) (x y : e.Expr) (s : State) → None ≡ joined_literal op k x y
      → and_value (valued (value p x s)) (λ a s. and_value (valued (value p y s)) (λ b s. valued (binary p op k a b s))) ≡ valued (of_operands p op k x y s)
  no_literal op k x y s none =
      two_ways (value p x s) _ _ _ _ (λ a s. two_ways (value p y s) _ _ _ _ (λ b s. refl))
      ∙ ap (λ l. valued (literal_or l (λ s. and_then (value p x s) (λ a s. and_then (value p y s) (λ b s. binary p op k a b s))) s)) none

  -- what a static use does behind what stands before its dot

  pub static_call : (before : Option CoreExpr) (m : ℕ) (xs : List CoreExpr) (s : State) → before ≡ None
      → and_values (all_valued (values p (plains xs) s)) (λ ys s. valued (called_static p m ys s))
      ≡ valued (behind p before (λ s. and_then (values p (plains xs) s) (called_static p m)) s)
  static_call before m xs s none =
      two_ways (values p (plains xs) s) _ _ _ _ (λ ys s. refl)
      ∙ ap (λ b. valued (behind p b (λ s. and_then (values p (plains xs) s) (called_static p m)) s)) (sym none)

  pub static_use : {A : Type 0} (before : Option CoreExpr) (x : CoreExpr) (w : ForNothing) (next : State → Outcome A) (give : A → State → Outcome Answer) (s : State)
      → before ≡ Some x → ((s : State) → on_nothing p w s ≡ and_then (next s) give)
      → and_nothing (nothing (dropped p (e.AnExpr (plain x)) s)) (on_nothing p w) ≡ and_then (behind p before next s) give
  static_use before x w next give s some more =
      two_ways (dropped p (e.AnExpr (plain x)) s) _ _ _ _ (λ u s. more s)
      ∙ ap (λ b. and_then (behind p b next s) give) (sym some)

  -- the value of an argument stands behind those before it
  pub pushed : (done new : List Value) (a : Value) (o : Outcome (List Value)) → new ≡ done ++ a ∷ []
      → all_valued (and_then o (λ ys s. Gives (new ++ ys) s)) ≡ all_valued (and_then o (λ ys s. Gives (done ++ a ∷ ys) s))
  pushed done new a (Gives ys s) is = ap (λ xs. Gives (an.Values (xs ++ ys)) s) is ∙ ap (λ xs. Gives (an.Values xs) s) (append_assoc done (a ∷ []) ys)
  pushed done new a (Threw k s) is = refl
  pushed done new a (Bound s) is = refl
