-- Lists of arguments and of statements, one by one.
use Rattle.std.proofs.Common.{◌≡◌, ℕ, zero, suc, ◌+◌, List, [], ◌∷◌, ◌++◌, drop, length, get_or, ◌<◌, None, slice_get, refl, sym, ap, ◌∙◌, append-nil, arith}
use Rattle.std.proofs.Math.Seq.{drop-cons, drop-nil}
use Rattle.java_core.specs.declared.expr.CoreExpr.{CoreExpr}
use Rattle.java_core.specs.declared.stmt.CoreStmt.{CoreStmt}
use Rattle.java_core.specs.View.{plain, plains, stmt_plain, stmts_plain}
use Rattle.java_core.specs.Plain as e
use Rattle.core_meaning.specs.declared.values.State.{State}
use Rattle.core_meaning.specs.declared.values.Value.{Value}
use Rattle.core_meaning.specs.declared.values.Ending.TheVariants.{Goes}
use Rattle.core_meaning.specs.Outcome.{Outcome, Gives, Threw, Bound, and_then, and_goes}
use Rattle.core_meaning.specs.Variables.{Place}
use Rattle.core_meaning.specs.Expressions.{value, values}
use Rattle.core_meaning.specs.Statements.{stmt, stmts}
use Rattle.run_frames.specs.Frames.{all_valued, and_ending, and_value, ended, valued}
use Rattle.run_frames.proofs.Outcomes.{two_ways}

pub dropped_next : {A : Type 0} (xs : List A) (k : ℕ) (x : A) → k < length xs → x ≡ get_or xs k x → drop k xs ≡ x ∷ drop (k + 1) xs
dropped_next xs k x within is =
    let more : suc k ≡ k + 1 = omega arith in
    drop-cons xs k x within ∙ ap (λ y. y ∷ drop (suc k) xs) (sym is) ∙ ap (λ n. x ∷ drop n xs) more

pub dropped_none : {A : Type 0} (xs : List A) (k : ℕ) → slice_get xs k ≡ None → drop k xs ≡ []
dropped_none [] k e = drop-nil k
dropped_none (y ∷ xs) zero e = search e
dropped_none (y ∷ xs) (suc k) e = dropped_none xs k e

module _ (p : Place) where
  argument_with : (x : e.Expr) (xs : e.Exprs) (done : List Value) (s : State)
      → all_valued (and_then (values p (e.Also x xs) s) (λ ys s. Gives (done ++ ys) s))
      ≡ and_value (valued (value p x s)) (λ a s. all_valued (and_then (values p xs s) (λ ys s. Gives (done ++ a ∷ ys) s)))
  argument_with x xs done s = behind (value p x s)
    where
      inside : (a : Value) (o : Outcome (List Value))
          → all_valued (and_then (and_then o (λ ys s. Gives (a ∷ ys) s)) (λ ys s. Gives (done ++ ys) s)) ≡ all_valued (and_then o (λ ys s. Gives (done ++ a ∷ ys) s))
      inside a (Gives ys s) = refl
      inside a (Threw n s) = refl
      inside a (Bound s) = refl

      behind : (o : Outcome Value)
          → all_valued (and_then (and_then o (λ a s. and_then (values p xs s) (λ ys s. Gives (a ∷ ys) s))) (λ ys s. Gives (done ++ ys) s))
          ≡ and_value (valued o) (λ a s. all_valued (and_then (values p xs s) (λ ys s. Gives (done ++ a ∷ ys) s)))
      behind (Gives a s) = inside a (values p xs s)
      behind (Threw n s) = refl
      behind (Bound s) = refl

  pub next_argument : (done : List Value) (xs : List CoreExpr) (k : ℕ) (x : CoreExpr) (s : State) → k < length xs → x ≡ get_or xs k x
      → and_value (valued (value p (plain x) s)) (λ a s. all_valued (and_then (values p (plains (drop (k + 1) xs)) s) (λ ys s. Gives (done ++ a ∷ ys) s)))
      ≡ all_valued (and_then (values p (plains (drop k xs)) s) (λ ys s. Gives (done ++ ys) s))
  next_argument done xs k x s within is =
      sym (ap (λ ys. all_valued (and_then (values p (plains ys) s) (λ ys s. Gives (done ++ ys) s))) (dropped_next xs k x within is) ∙ argument_with (plain x) (plains (drop (k + 1) xs)) done s)

  pub no_argument : (done : List Value) (xs : List CoreExpr) (k : ℕ) (s : State) → slice_get xs k ≡ None
      → all_valued (Gives done s) ≡ all_valued (and_then (values p (plains (drop k xs)) s) (λ ys s. Gives (done ++ ys) s))
  no_argument done xs k s none =
      sym (ap (λ ys. all_valued (and_then (values p (plains ys) s) (λ ys s. Gives (done ++ ys) s))) (dropped_none xs k none) ∙ ap (λ ys. all_valued (Gives ys s)) (append-nil done))

  pub next_stmt : (xs : List CoreStmt) (k : ℕ) (x : CoreStmt) (s : State) → k < length xs → x ≡ get_or xs k x
      → and_ending (ended (stmt p (stmt_plain x) s)) (λ f s. ended (and_goes f s (stmts p (stmts_plain (drop (k + 1) xs)))))
      ≡ ended (stmts p (stmts_plain (drop k xs)) s)
  next_stmt xs k x s within is =
      sym (ap (λ ys. ended (stmts p (stmts_plain ys) s)) (dropped_next xs k x within is)
      ∙ two_ways (stmt p (stmt_plain x) s) _ _ _ _ (λ f s. refl))

  pub no_stmt : (xs : List CoreStmt) (k : ℕ) (s : State) → slice_get xs k ≡ None → ended (Gives Goes s) ≡ ended (stmts p (stmts_plain (drop k xs)) s)
  no_stmt xs k s none = sym (ap (λ ys. ended (stmts p (stmts_plain ys) s)) (dropped_none xs k none))
