-- Parts of `switch`, `try` and the enhanced `for`.
use Rattle.std.specs.Prelude.{ℕ, ℤ, List, [], Bool, Option, drop, map}
use Rattle.std.specs.Option.{option_map}
use Rattle.class_world.specs.declared.world.JavaType.{JavaType}
use Rattle.java_core.specs.Plain as e
use Rattle.java_core.specs.View.{catch_plain, catch_row, group_plain, group_row, stmt_maybe, stmt_plain, stmts_plain}
use Rattle.java_core.specs.declared.stmt.CoreStmt.{CoreStmt}
use Rattle.java_core.specs.declared.stmt.CoreGroup.{CoreGroup}
use Rattle.java_core.specs.declared.stmt.CoreCatch.{CoreCatch}
use Rattle.core_meaning.specs.declared.values.Value.{Value}
use Rattle.core_meaning.specs.declared.values.Ending.{Ending}
use Rattle.core_meaning.specs.declared.values.State.{State}
use Rattle.core_meaning.specs.Outcome.{Outcome, and_goes, and_then, behind_switch, finally, rescued}
use Rattle.core_meaning.specs.Variables.{Place}
use Rattle.core_meaning.specs.Members.{called}
use Rattle.core_meaning.specs.Statements.{begins_at, cast_if, caught, from_group, groups, maybe_stmt, stmt, stmts, taken}

-- a switch, where the number of its selector is known
abbrev pub switched : ℤ → e.Groups → Place → State → Outcome Ending
switched z gs p s = behind_switch (from_group p (begins_at z gs) gs s)

-- the statements of a group, and behind them the groups from a place on
abbrev pub group_then : Place → List CoreStmt → List CoreGroup → (at : ℕ) → State → Outcome Ending
group_then p xs gs k s = and_then (stmts p (stmts_plain xs) s) (λ f s. and_goes f s (groups p (group_row (map group_plain (drop k gs)))))

-- a finally block, or what is done where there is none
abbrev pub last_block : Option CoreStmt → Place → State → Outcome Ending
last_block z p s = maybe_stmt p (stmt_maybe (option_map stmt_plain z)) s

-- a block, its catches and the finally block
abbrev pub tried : Place → CoreStmt → List CoreCatch → Option CoreStmt → State → Outcome Ending
tried p x cs z s = finally (rescued (stmt p (stmt_plain x) s) (λ k s. caught p k (catch_row (map catch_plain cs)) s)) (last_block z p)

-- the variable of an enhanced for takes what next() answers
abbrev pub next_taken : Place → (next slot : ℕ) → (type item : JavaType) → (implied : Bool) → Value → State → Outcome Bool
next_taken p m k t u implied it s = and_then (called p m it [] s) (λ y s. and_then (cast_if implied p u y s) (taken k t))
