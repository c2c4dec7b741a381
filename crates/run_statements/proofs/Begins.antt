-- What begins when a statement does is what the statement does: a lemma a form.
use Rattle.std.proofs.Common.{◌≡◌, ℕ, Bool, List, Option, Some, None, map, refl, sym, ap, ◌∙◌}
use Rattle.std.specs.Option.{option_map}
use Rattle.class_world.specs.declared.world.JavaType.{JavaType}
use Rattle.java_core.specs.declared.written.CoreType.{CoreType}
use Rattle.java_core.specs.declared.expr.CoreExpr.{CoreExpr}
use Rattle.java_core.specs.declared.stmt.CoreStmt.{CoreStmt}
use Rattle.java_core.specs.declared.stmt.CoreVar.{CoreVar}
use Rattle.java_core.specs.declared.stmt.CoreGroup.{CoreGroup}
use Rattle.java_core.specs.declared.stmt.CoreCatch.{CoreCatch}
use Rattle.java_core.specs.declared.stmt.CoreStmtForm.{CoreStmtForm, out-CoreStmtForm}
use Rattle.java_core.specs.declared.stmt.CoreStmtForm.TheVariants as v
use Rattle.java_core.specs.declared.stmt.CoreStmtForm.TheOpen as o
use Rattle.java_core.specs.View.{catch_plain, catch_row, group_plain, group_row, plain, plains, stmt_maybe, stmt_plain, stmts_plain, var_plain}
use Rattle.java_core.proofs.Views.{plain_at}
use Rattle.type_kinds.specs.Kinds.{element, ty_of}
use Rattle.core_meaning.specs.declared.values.Ending.TheVariants.{Goes, Breaks, Continues}
use Rattle.core_meaning.specs.declared.values.State.{State}
use Rattle.core_meaning.specs.Outcome.{Outcome, Gives, Threw, and_then, by_truth, finally, loop, rescued, with_reference, with_some}
use Rattle.core_meaning.specs.Variables.{Place}
use Rattle.core_meaning.specs.Members.{invoked}
use Rattle.core_meaning.specs.Expressions.{value, values}
use Rattle.core_meaning.specs.Statements.{and_updates, begun, caught, done, each, locals, maybe_stmt, selector, stmt, stmts, tested, tested_or}
use Rattle.run_frames.specs.declared.focus.Answer.{Answer}
use Rattle.run_frames.specs.Frames.{all_valued, and_value, and_values, done_looped, ended, valued}
use Rattle.run_statements.specs.Parts.{switched}
use Rattle.run_statements.specs.Turns.{returned}
use Rattle.run_statements.proofs.Equations.{value_ends, value_thrown, values_end}
use Rattle.run_statements.proofs.Forms.{stmt_level, stmt_shaped}

ty_at : (x : CoreExpr) → x.ty ≡ ty_of (plain x)
ty_at x = sym (ap ty_of (plain_at x))

module _ (p : Place) (x : CoreStmt) (s : State) where
  -- what the form of these parts does
  abbrev By : o.CoreStmtForm-F CoreStmtForm CoreCatch CoreGroup CoreStmt → Outcome Answer
  By L = ended (stmt p (stmt_level L x.node) s)

  as_form : (y : CoreStmtForm) (L : o.CoreStmtForm-F CoreStmtForm CoreCatch CoreGroup CoreStmt) (r : Outcome Answer)
      → x.form ≡ y → out-CoreStmtForm y ≡ L → r ≡ By L → r ≡ ended (stmt p (stmt_plain x) s)
  as_form y L r is out e = e ∙ sym (ap (λ z. ended (stmt p z s)) (stmt_shaped x y L is out))

  pub block : (xs : List CoreStmt) → x.form ≡ v.Block xs → ended (stmts p (stmts_plain xs) s) ≡ ended (stmt p (stmt_plain x) s)
  block xs is = as_form _ _ _ is (v.outs-Block xs) refl

  pub declares : (f : Bool) (w : CoreType) (xs : List CoreVar) → x.form ≡ v.Local f w xs → ended (locals p (map var_plain xs) s) ≡ ended (stmt p (stmt_plain x) s)
  declares f w xs is = as_form _ _ _ is (v.outs-Local f w xs) refl

  pub empty : x.form ≡ v.Empty → ended (Gives Goes s) ≡ ended (stmt p (stmt_plain x) s)
  empty is = as_form _ _ _ is v.outs-Empty refl

  pub breaks : x.form ≡ v.Break → ended (Gives Breaks s) ≡ ended (stmt p (stmt_plain x) s)
  breaks is = as_form _ _ _ is v.outs-Break refl

  pub continues : x.form ≡ v.Continue → ended (Gives Continues s) ≡ ended (stmt p (stmt_plain x) s)
  continues is = as_form _ _ _ is v.outs-Continue refl

  pub evaluates : (y : CoreExpr) → x.form ≡ v.Value y
      → and_value (valued (value p (plain y) s)) (λ a s. ended (Gives Goes s)) ≡ ended (stmt p (stmt_plain x) s)
  evaluates y is = as_form _ _ _ is (v.outs-Value y) (value_ends (value p (plain y) s) (λ a s. Gives Goes s))

  pub chooses : (y : CoreExpr) (a : CoreStmt) (b : Option CoreStmt) → x.form ≡ v.If y a b
      → and_value (valued (value p (plain y) s)) (λ t s. ended (by_truth t (stmt p (stmt_plain a)) (maybe_stmt p (stmt_maybe (option_map stmt_plain b))) s))
      ≡ ended (stmt p (stmt_plain x) s)
  chooses y a b is = as_form _ _ _ is (v.outs-If y a b) (value_ends (value p (plain y) s) _ ∙ either b)
    where
      either : (b : Option CoreStmt)
          → ended (and_then (value p (plain y) s) (λ t s. by_truth t (stmt p (stmt_plain a)) (maybe_stmt p (stmt_maybe (option_map stmt_plain b))) s)) ≡ By (o.If y a b)
      either None = refl
      either (Some z) = refl

  pub repeats : (y : CoreExpr) (a : CoreStmt) → x.form ≡ v.While y a
      → ended (loop p.turns 0 (λ i. tested p (plain y)) (stmt p (stmt_plain a)) s) ≡ ended (stmt p (stmt_plain x) s)
  repeats y a is = as_form _ _ _ is (v.outs-While y a) refl

  pub does : (a : CoreStmt) (y : CoreExpr) → x.form ≡ v.Do a y
      → ended (done_looped p a (tested p (plain y)) p.turns s) ≡ ended (stmt p (stmt_plain x) s)
  does a y is = as_form _ _ _ is (v.outs-Do a y) refl

  pub counts : (xs : List CoreStmt) (y : Option CoreExpr) (us : List CoreExpr) (a : CoreStmt) → x.form ≡ v.For xs y us a
      → ended (and_then (stmts p (stmts_plain xs) s) (λ f s. loop p.turns 0 (λ i. tested_or p (option_map plain y))
      (λ s. and_then (stmt p (stmt_plain a) s) (λ g s. and_updates g (λ s. done (values p (plains us) s)) s)) s))
      ≡ ended (stmt p (stmt_plain x) s)
  counts xs y us a is = as_form _ _ _ is (v.outs-For xs y us a) (either y)
    where
      either : (y : Option CoreExpr)
          → ended (and_then (stmts p (stmts_plain xs) s) (λ f s. loop p.turns 0 (λ i. tested_or p (option_map plain y))
          (λ s. and_then (stmt p (stmt_plain a) s) (λ g s. and_updates g (λ s. done (values p (plains us) s)) s)) s))
          ≡ By (o.For xs y us a)
      either None = refl
      either (Some z) = refl

  pub goes_over : (f : Bool) (w : CoreType) (z : CoreVar) (y : CoreExpr) (t : JavaType) (implied : Bool) (a : CoreStmt) → x.form ≡ v.ForEach f w z y t implied a
      → and_value (valued (value p (plain y) s)) (λ b s. ended (each (element y.ty) p z.slot z.ty t implied b (stmt p (stmt_plain a)) s))
      ≡ ended (stmt p (stmt_plain x) s)
  goes_over f w z y t implied a is = as_form _ _ _ is (v.outs-ForEach f w z y t implied a)
      (value_ends (value p (plain y) s) _
      ∙ ap (λ u. ended (and_then (value p (plain y) s) (λ b s. each (element u) p z.slot z.ty t implied b (stmt p (stmt_plain a)) s))) (ty_at y))

  pub switches : (y : CoreExpr) (gs : List CoreGroup) → x.form ≡ v.Switch y gs
      → and_value (valued (value p (plain y) s)) (λ a s. ended (with_some (selector a) s (λ z. switched z (group_row (map group_plain gs)) p s)))
      ≡ ended (stmt p (stmt_plain x) s)
  switches y gs is = as_form _ _ _ is (v.outs-Switch y gs) (value_ends (value p (plain y) s) _)

  pub returns_with : (y : Option CoreExpr) → x.form ≡ v.Return y → ended (returned (option_map plain y) p s) ≡ ended (stmt p (stmt_plain x) s)
  returns_with y is = as_form _ _ _ is (v.outs-Return y) (either y)
    where
      either : (y : Option CoreExpr) → ended (returned (option_map plain y) p s) ≡ By (o.Return y)
      either None = refl
      either (Some z) = refl

  pub throws : (y : CoreExpr) → x.form ≡ v.Throw y
      → and_value (valued (value p (plain y) s)) (λ a s. with_reference a s (λ k. Threw k s)) ≡ ended (stmt p (stmt_plain x) s)
  throws y is = as_form _ _ _ is (v.outs-Throw y) (value_thrown (value p (plain y) s))

  pub tries : (a : CoreStmt) (cs : List CoreCatch) (b : Option CoreStmt) → x.form ≡ v.Try a cs b
      → ended (finally (rescued (stmt p (stmt_plain a) s) (λ k s. caught p k (catch_row (map catch_plain cs)) s)) (maybe_stmt p (stmt_maybe (option_map stmt_plain b))))
      ≡ ended (stmt p (stmt_plain x) s)
  tries a cs b is = as_form _ _ _ is (v.outs-Try a cs b) (either b)
    where
      either : (b : Option CoreStmt)
          → ended (finally (rescued (stmt p (stmt_plain a) s) (λ k s. caught p k (catch_row (map catch_plain cs)) s)) (maybe_stmt p (stmt_maybe (option_map stmt_plain b))))
          ≡ By (o.Try a cs b)
      either None = refl
      either (Some z) = refl

  pub constructs_on : (m : ℕ) (xs : List CoreExpr) → x.form ≡ v.ThisCall m xs
      → and_values (all_valued (values p (plains xs) s)) (λ ys s. ended (done (invoked p m s.frame.this ys s))) ≡ ended (stmt p (stmt_plain x) s)
  constructs_on m xs is = as_form _ _ _ is (v.outs-ThisCall m xs) (values_end (values p (plains xs) s) _)

  pub constructs_above : (m : ℕ) (xs : List CoreExpr) → x.form ≡ v.SuperCall m xs
      → and_values (all_valued (values p (plains xs) s)) (λ ys s. ended (begun p m ys s)) ≡ ended (stmt p (stmt_plain x) s)
  constructs_above m xs is = as_form _ _ _ is (v.outs-SuperCall m xs) (values_end (values p (plains xs) s) _)
