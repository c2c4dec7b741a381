-- Parts of loops.
use Rattle.std.specs.Prelude.{ℕ, Option, Some, None}
use Rattle.java_core.specs.Plain as e
use Rattle.java_core.specs.declared.stmt.CoreStmt.{CoreStmt}
use Rattle.core_meaning.specs.declared.values.Ending.{Ending}
use Rattle.core_meaning.specs.declared.values.Ending.TheVariants.{Goes, Returns}
use Rattle.core_meaning.specs.declared.values.State.{State}
use Rattle.core_meaning.specs.Outcome.{Outcome, Gives, and_then, and_turns, choose}
use Rattle.core_meaning.specs.Variables.{Place}
use Rattle.core_meaning.specs.Expressions.{value}
use Rattle.core_meaning.specs.Statements.{tested}
use Rattle.run_frames.specs.declared.waits.Loop.{Loop}
use Rattle.run_frames.specs.Frames.{body_of, done_looped, looped}

-- the body of a turn, whose step is taken, and what comes behind it
abbrev pub turned : Place → Loop → (n next : ℕ) → State → Outcome Ending
turned p x n next s = and_then (body_of p x s) (λ e s. and_turns e s (looped p x n next))

-- the test of a `do`, and what comes behind it
abbrev pub do_tested : Place → CoreStmt → e.Expr → ℕ → State → Outcome Ending
do_tested p x test n s = and_then (tested p test s) (λ b s. choose b (done_looped p x (tested p test) n) (λ s. Gives Goes s) s)

-- a `return`, with a value or without
abbrev pub returned : Option e.Expr → Place → State → Outcome Ending
returned None p s = Gives (Returns None) s
returned (Some x) p s = and_then (value p x s) (λ a s. Gives (Returns (Some a)) s)
