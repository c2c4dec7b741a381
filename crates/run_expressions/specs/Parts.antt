-- What is done with the parts of an expression.
use Rattle.std.specs.Prelude.{Option}
use Rattle.std.specs.Option.{option_map}
use Rattle.java_tree.specs.declared.tree.BinOp.{BinOp}
use Rattle.java_core.specs.declared.expr.CoreExpr.{CoreExpr}
use Rattle.java_core.specs.declared.expr.Kind.{Kind}
use Rattle.java_core.specs.Plain.{Expr}
use Rattle.java_core.specs.View.{maybe, plain}
use Rattle.core_meaning.specs.declared.values.State.{State}
use Rattle.core_meaning.specs.declared.values.Value.{Value}
use Rattle.core_meaning.specs.Outcome.{Outcome, and_then}
use Rattle.core_meaning.specs.Code.{joined_literal}
use Rattle.core_meaning.specs.Variables.{Place}
use Rattle.core_meaning.specs.Expressions.{binary, dropped, literal_or, value}

-- a binary operator with its operands; a concatenation of literals is one literal
abbrev pub of_operands : Place → BinOp → Kind → (x y : Expr) → State → Outcome Value
of_operands p op k x y s = literal_or (joined_literal op k x y) (λ s. and_then (value p x s) (λ a s. and_then (value p y s) (λ b s. binary p op k a b s))) s

-- what is done behind the expression before the dot of a static use, if there is one
abbrev pub behind : {A : Type 0} → Place → Option CoreExpr → (State → Outcome A) → State → Outcome A
behind p before next s = and_then (dropped p (maybe (option_map plain before)) s) (λ u s. next s)
