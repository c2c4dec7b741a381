-- Parts of statements, by the answer that they get.
use Rattle.std.proofs.Common.{◌≡◌, ℕ, suc, ◌+◌, ℤ, Bool, true, false, Option, Some, sym, ap, ◌∙◌, arith}
use Rattle.std.specs.Option.{option_map}
use Rattle.java_core.specs.Plain as e
use Rattle.java_core.specs.declared.expr.CoreExpr.{CoreExpr}
use Rattle.java_core.specs.declared.stmt.CoreStmt.{CoreStmt}
use Rattle.java_core.specs.View.{plain, stmt_maybe, stmt_plain}
use Rattle.core_meaning.specs.declared.values.Value.{Value}
use Rattle.core_meaning.specs.declared.values.Value.TheVariants as v
use Rattle.core_meaning.specs.declared.values.Ending.{Ending}
use Rattle.core_meaning.specs.declared.values.Ending.TheVariants.{Goes, Continues, Returns}
use Rattle.core_meaning.specs.declared.values.State.{State}
use Rattle.core_meaning.specs.State.{with_local}
use Rattle.core_meaning.specs.Outcome.{Outcome, Gives, and_goes, and_then, and_turns, by_truth, choose, finally, with_some}
use Rattle.core_meaning.specs.Variables.{Place}
use Rattle.core_meaning.specs.Expressions.{value, values}
use Rattle.core_meaning.specs.Statements.{and_updates, done, local_by, maybe_stmt, selector, stmt, tested, tested_or}
use Rattle.run_frames.specs.declared.focus.Answer.TheVariants as an
use Rattle.run_frames.specs.declared.waits.ForTruth.TheVariants as for_truth
use Rattle.run_frames.specs.declared.waits.Loop.{Loop}
use Rattle.run_frames.specs.declared.waits.Saved.{Saved}
use Rattle.run_frames.specs.declared.waits.Saved.TheVariants as saved
use Rattle.run_frames.specs.Frames.{a_truth, all_valued, and_ending, and_truth, and_value, and_values, before, body_of, done_looped, ended, looped, on_truth, restored, valued}
use Rattle.run_statements.specs.Parts.{switched}
use Rattle.run_statements.specs.Turns.{do_tested, returned, turned}
use Rattle.run_statements.proofs.Equations.{both_end, ending_ends, truth_ends, value_ends, value_tells, values_end}
use Rattle.run_statements.proofs.Turns.{stepped}

module _ (p : Place) (s : State) where
  -- ---- options

  pub test_in : (o : Option CoreExpr) (x : CoreExpr) → o ≡ Some x
      → and_value (valued (value p (plain x) s)) (λ a s. a_truth (by_truth a (λ s. Gives true s) (λ s. Gives false s) s)) ≡ a_truth (tested_or p (option_map plain o) s)
  test_in o x is = value_tells (value p (plain x) s) _ ∙ sym (ap (λ o. a_truth (tested_or p (option_map plain o) s)) is)

  pub init_in : (o : Option CoreExpr) (x : CoreExpr) (k : ℕ) → o ≡ Some x
      → and_value (valued (value p (plain x) s)) (λ a s. Gives (an.Ending Goes) (with_local k a s)) ≡ ended (local_by (option_map plain o) p k s)
  init_in o x k is = value_ends (value p (plain x) s) (λ a s. Gives Goes (with_local k a s)) ∙ sym (ap (λ o. ended (local_by (option_map plain o) p k s)) is)

  pub return_in : (o : Option CoreExpr) (x : CoreExpr) → o ≡ Some x
      → and_value (valued (value p (plain x) s)) (λ a s. Gives (an.Ending (Returns (Some a))) s) ≡ ended (returned (option_map plain o) p s)
  return_in o x is = value_ends (value p (plain x) s) (λ a s. Gives (Returns (Some a)) s) ∙ sym (ap (λ o. ended (returned (option_map plain o) p s)) is)

  last_of : (x : CoreStmt) (k : Saved)
      → and_ending (ended (stmt p (stmt_plain x) s)) (λ f s. ended (and_goes f s (restored k))) ≡ ended (finally (restored k s) (stmt p (stmt_plain x)))
  last_of x (saved.Ending f) = ending_ends (stmt p (stmt_plain x) s) _
  last_of x (saved.Threw n) = ending_ends (stmt p (stmt_plain x) s) _

  pub last_in : (o : Option CoreStmt) (x y : CoreStmt) (k : Saved) → o ≡ Some x → y ≡ x
      → and_ending (ended (stmt p (stmt_plain y) s)) (λ f s. ended (and_goes f s (restored k))) ≡ ended (finally (restored k s) (maybe_stmt p (stmt_maybe (option_map stmt_plain o))))
  last_in o x y k is same =
      ap (λ y. and_ending (ended (stmt p (stmt_plain y) s)) (λ f s. ended (and_goes f s (restored k)))) same ∙ last_of x k
      ∙ sym (ap (λ o. ended (finally (restored k s) (maybe_stmt p (stmt_maybe (option_map stmt_plain o))))) is)

  -- ---- answers

  pub updates_go : (xs : e.Exprs) (f : Ending) → f ≡ Goes
      → and_values (all_valued (values p xs s)) (λ ys s. Gives (an.Ending Goes) s) ≡ ended (and_updates f (λ s. done (values p xs s)) s)
  updates_go xs f is = values_end (values p xs s) (λ ys s. Gives Goes s) ∙ sym (ap (λ f. ended (and_updates f (λ s. done (values p xs s)) s)) is)

  pub updates_continue : (xs : e.Exprs) (f : Ending) → f ≡ Continues
      → and_values (all_valued (values p xs s)) (λ ys s. Gives (an.Ending Goes) s) ≡ ended (and_updates f (λ s. done (values p xs s)) s)
  updates_continue xs f is = values_end (values p xs s) (λ ys s. Gives Goes s) ∙ sym (ap (λ f. ended (and_updates f (λ s. done (values p xs s)) s)) is)

  pub where_false : (a : Value) (b : Bool) (go otherwise : State → Outcome Ending) → a ≡ v.Truth b → b ≡ false → ended (otherwise s) ≡ ended (by_truth a go otherwise s)
  where_false a b go otherwise is fails = sym (ap (λ a. ended (by_truth a go otherwise s)) (is ∙ ap v.Truth fails))

  pub on_number : (a : Value) (y z : ℤ) (gs : e.Groups) → selector a ≡ Some z → y ≡ z → ended (switched y gs p s) ≡ ended (with_some (selector a) s (λ z. switched z gs p s))
  on_number a y z gs is same = ap (λ z. ended (switched z gs p s)) same ∙ sym (ap (λ o. ended (with_some o s (λ z. switched z gs p s))) is)

  -- ---- loops

  -- behind the body of a loop comes the next turn
  pub body_turns : (x : Loop) (n i : ℕ) (o : Outcome Ending) → o ≡ body_of p x s
      → and_ending (ended o) (λ f s. ended (and_turns f s (looped p x n i))) ≡ ended (turned p x n i s)
  body_turns x n i o is = ending_ends o _ ∙ ap (λ o. ended (and_then o (λ f s. and_turns f s (looped p x n i)))) is

  -- behind the body of a `for` its updates, and then the next turn
  pub updated_turns : (x : Loop) (n i : ℕ) (o : Outcome Ending) (f : Ending → State → Outcome Ending) → and_then o f ≡ body_of p x s
      → and_ending (and_ending (ended o) (λ g s. ended (f g s))) (λ g s. ended (and_turns g s (looped p x n i))) ≡ ended (turned p x n i s)
  updated_turns x n i o f is = both_end o f _ ∙ ap (λ o. ended (and_then o (λ f s. and_turns f s (looped p x n i)))) is

  pub test_does : (x : CoreStmt) (y : e.Expr) (n : ℕ)
      → and_truth (and_value (valued (value p y s)) (λ a s. a_truth (by_truth a (λ s. Gives true s) (λ s. Gives false s) s)))
      (λ b s. ended (choose b (done_looped p x (tested p y) n) (λ s. Gives Goes s) s))
      ≡ ended (do_tested p x y n s)
  test_does x y n = ap (λ o. and_truth o (λ b s. ended (choose b (done_looped p x (tested p y) n) (λ s. Gives Goes s) s))) (value_tells (value p y s) _) ∙ truth_ends (tested p y s) _

  -- behind the step of a turn of a `do`, whose body comes first
  pub body_does : (old : State) (x z : CoreStmt) (y : e.Expr) (n : ℕ) → old ≡ record s { left = suc s.left } → z ≡ x
      → and_ending (ended (stmt p (stmt_plain z) s)) (λ f s. ended (and_turns f s (λ s. do_tested p x y n s))) ≡ ended (done_looped p x (tested p y) (n + 1) old)
  body_does old x z y n took same =
      let more : suc n ≡ n + 1 = omega arith in
      ap (λ z. and_ending (ended (stmt p (stmt_plain z) s)) (λ f s. ended (and_turns f s (λ s. do_tested p x y n s)))) same
      ∙ ending_ends (stmt p (stmt_plain x) s) _
      ∙ ap ended (stepped old s (λ s. and_then (stmt p (stmt_plain x) s) (λ f s. and_turns f s (λ s. do_tested p x y n s))) took)
      ∙ ap (λ n. ended (done_looped p x (tested p y) n old)) more

  -- a turn whose test holds and whose step is taken
  pub turn_goes : (old : State) (x : Loop) (n i next : ℕ) (b : Bool) → b ≡ true → next ≡ i + 1 → old ≡ record s { left = suc s.left }
      → ended (turned p x n next s) ≡ on_truth p (for_truth.Loop n i x) b old
  turn_goes old x n i next b holds counted took =
      let more : next ≡ suc i = omega (arith, counted) in
      ap (λ i. ended (turned p x n i s)) more
      ∙ ap ended (stepped old s (turned p x n (suc i)) took)
      ∙ sym (ap (λ b. on_truth p (for_truth.Loop n i x) b old) holds)

  pub do_goes : (x : CoreStmt) (y : e.Expr) (n : ℕ) (f : Ending) → f ≡ Goes
      → ended (do_tested p x y n s) ≡ ended (and_turns f s (do_tested p x y n))
  do_goes x y n f is = sym (ap (λ f. ended (and_turns f s (do_tested p x y n))) is)

  pub do_continues : (x : CoreStmt) (y : e.Expr) (n : ℕ) (f : Ending) → f ≡ Continues
      → ended (do_tested p x y n s) ≡ ended (and_turns f s (do_tested p x y n))
  do_continues x y n f is = sym (ap (λ f. ended (and_turns f s (do_tested p x y n))) is)

  pub do_repeats : (x : CoreStmt) (y : CoreExpr) (n : ℕ) (b : Bool) → b ≡ true
      → ended (done_looped p x (tested p (plain y)) n s) ≡ ended (choose b (done_looped p x (tested p (plain y)) n) (λ s. Gives Goes s) s)
  do_repeats x y n b holds = sym (ap (λ b. ended (choose b (done_looped p x (tested p (plain y)) n) (λ s. Gives Goes s) s)) holds)

  -- a test, and what it says of the turn
  pub test_turns : (x : Loop) (n i : ℕ)
      → and_truth (a_truth (before p x i s)) (on_truth p (for_truth.Loop n i x)) ≡ ended (looped p x (n + 1) i s)
  test_turns x n i =
      let more : suc n ≡ n + 1 = omega arith in
      truth_ends (before p x i s) _ ∙ ap (λ n. ended (looped p x n i s)) more

  pub loop_goes : (x : Loop) (n i : ℕ) (f : Ending) → f ≡ Goes → ended (looped p x n i s) ≡ ended (and_turns f s (looped p x n i))
  loop_goes x n i f is = sym (ap (λ f. ended (and_turns f s (looped p x n i))) is)

  pub loop_continues : (x : Loop) (n i : ℕ) (f : Ending) → f ≡ Continues → ended (looped p x n i s) ≡ ended (and_turns f s (looped p x n i))
  loop_continues x n i f is = sym (ap (λ f. ended (and_turns f s (looped p x n i))) is)
