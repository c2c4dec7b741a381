-- Lists of locals and of groups, one by one.
use Rattle.std.proofs.Common.{◌≡◌, ℕ, ℤ, ◌+◌, ◌<◌, Bool, true, List, Option, drop, get_or, length, map, sym, ap, ◌∙◌}
use Rattle.std.specs.Option.{option_map}
use Rattle.java_core.specs.declared.stmt.CoreVar.{CoreVar}
use Rattle.java_core.specs.declared.stmt.CoreGroup.{CoreGroup, out-CoreGroup}
use Rattle.java_core.specs.Plain as e
use Rattle.java_core.specs.View.{group_plain, group_row, plain, stmts_plain, var_plain}
use Rattle.core_meaning.specs.declared.values.Ending.{Ending}
use Rattle.core_meaning.specs.declared.values.State.{State}
use Rattle.core_meaning.specs.Outcome.{Outcome, and_goes, and_then, choose}
use Rattle.core_meaning.specs.Variables.{Place}
use Rattle.core_meaning.specs.Statements.{from_group, groups, local_by, locals, stmts}
use Rattle.run_frames.specs.Frames.{and_ending, ended}
use Rattle.run_frames.proofs.Pieces.{dropped_next}
use Rattle.run_statements.proofs.Equations.{ending_ends}
use Rattle.run_statements.proofs.Forms.{group_at}

module _ (p : Place) where
  -- ---- locals

  pub next_var : (xs : List CoreVar) (k : ℕ) (x : CoreVar) (s : State) → k < length xs → x ≡ get_or xs k x
      → and_ending (ended (local_by (option_map plain x.init) p x.slot s)) (λ f s. ended (locals p (map var_plain (drop (k + 1) xs)) s))
      ≡ ended (locals p (map var_plain (drop k xs)) s)
  next_var xs k x s within is =
      ending_ends (local_by (option_map plain x.init) p x.slot s) _
      ∙ sym (ap (λ ys. ended (locals p (map var_plain ys) s)) (dropped_next xs k x within is))

  -- ---- groups

  -- a group, and the others behind it
  abbrev pub group_then : CoreGroup → List CoreGroup → State → Outcome Ending
  group_then x xs s = and_then (stmts p (stmts_plain (out-CoreGroup x).body) s) (λ f s. and_goes f s (groups p (group_row (map group_plain xs))))

  pub next_group : (xs : List CoreGroup) (k : ℕ) (x : CoreGroup) (s : State) → k < length xs → x ≡ get_or xs k x
      → ended (group_then x (drop (k + 1) xs) s) ≡ ended (groups p (group_row (map group_plain (drop k xs))) s)
  next_group xs k x s within is =
      sym (ap (λ ys. ended (groups p (group_row (map group_plain ys)) s)) (dropped_next xs k x within is)
      ∙ ap (λ y. ended (groups p (e.AndGroup y (group_row (map group_plain (drop (k + 1) xs)))) s)) (group_at x))

  module _ (test : List (Option ℤ) → Bool) where
    first_group : (xs : List CoreGroup) (k : ℕ) (x : CoreGroup) (s : State) → k < length xs → x ≡ get_or xs k x
        → ended (choose (test (out-CoreGroup x).labels) (group_then x (drop (k + 1) xs)) (from_group p test (group_row (map group_plain (drop (k + 1) xs)))) s)
        ≡ ended (from_group p test (group_row (map group_plain (drop k xs))) s)
    first_group xs k x s within is =
        sym (ap (λ ys. ended (from_group p test (group_row (map group_plain ys)) s)) (dropped_next xs k x within is)
        ∙ ap (λ y. ended (from_group p test (e.AndGroup y (group_row (map group_plain (drop (k + 1) xs)))) s)) (group_at x))

    pub from_this : (xs : List CoreGroup) (k : ℕ) (x : CoreGroup) (s : State) → k < length xs → x ≡ get_or xs k x → test (out-CoreGroup x).labels ≡ true
        → ended (group_then x (drop (k + 1) xs) s) ≡ ended (from_group p test (group_row (map group_plain (drop k xs))) s)
    from_this xs k x s within is passes =
        sym (ap (λ b. ended (choose b (group_then x (drop (k + 1) xs)) (from_group p test (group_row (map group_plain (drop (k + 1) xs)))) s)) passes) ∙ first_group xs k x s within is
