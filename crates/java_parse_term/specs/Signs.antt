-- Operators, of one token or more.
use Rattle.std.specs.Prelude.{ℕ, ◌+◌, Bool, true, false, ◌&&◌, ◌==◌, if◌then◌else◌, List, Option, Some, None}
use Rattle.java_tree.specs.declared.tree.UnOp.{UnOp}
use Rattle.java_tree.specs.declared.tree.UnOp.TheVariants as un
use Rattle.java_tree.specs.declared.tree.BinOp.{BinOp}
use Rattle.java_tree.specs.declared.tree.BinOp.TheVariants as op
use Rattle.java_grammar.specs.declared.token.Tok.{Tok}
use Rattle.java_grammar.specs.declared.token.Sort.{Sort}
use Rattle.java_grammar.specs.declared.token.Sort.TheVariants as s
use Rattle.java_grammar.specs.declared.token.Keyword.TheVariants as word
use Rattle.java_grammar.specs.declared.token.Mark.TheVariants as m
use Rattle.java_grammar.specs.Reads.{sort_at, from_at, to_at}
use Rattle.java_grammar.specs.Expressions.{level_of}
use Rattle.java_parse_term.specs.declared.signs.Standing.{Standing}
use Rattle.java_parse_term.specs.Marks.{is_infix, is_keyword}

abbrev pub standing : {A : Type 0} → A → ℕ → Standing A
standing x next = record { is = x; next = next }

-- the operator before an operand
abbrev pub prefix_of : Sort → Option UnOp
prefix_of (s.Infix op.Add) = Some un.Plus
prefix_of (s.Infix op.Sub) = Some un.Minus
prefix_of (s.Mark m.Invert) = Some un.Invert
prefix_of (s.Mark m.Not) = Some un.Not
prefix_of _ = None

-- `++` or `--`
abbrev pub step_of : Sort → Option Bool
step_of (s.Step up) = Some up
step_of _ = None

-- `+`, `-`, `++` or `--`
abbrev pub is_sign : Sort → Bool
is_sign (s.Infix op.Add) = true
is_sign (s.Infix op.Sub) = true
is_sign (s.Step up) = true
is_sign _ = false

-- An operand begins so, and none of these goes on with an expression.
abbrev pub is_begin : Sort → Bool
is_begin s.Word = true
is_begin (s.Number long) = true
is_begin s.Char = true
is_begin s.Text = true
is_begin (s.Keyword word.True) = true
is_begin (s.Keyword word.False) = true
is_begin (s.Keyword word.Null) = true
is_begin (s.Keyword word.This) = true
is_begin (s.Keyword word.Super) = true
is_begin (s.Keyword word.New) = true
is_begin (s.Mark m.Open) = true
is_begin (s.Mark m.Invert) = true
is_begin (s.Mark m.Not) = true
is_begin _ = false

module _ (ts : List Tok) where
  -- The operator stands right behind the token at i.
  unfoldable pub joins : BinOp → ℕ → Bool
  joins x i = (to_at ts i == from_at ts (i + 1)) && is_infix ts x (i + 1)

  -- an infix operator that begins with the `>` at i
  unfoldable pub right_at : ℕ → Option (Standing BinOp)
  right_at i =
      if joins op.Greater i
      then (if joins op.Greater (i + 1) then Some (standing op.ShiftRightZero (i + 3))
      else (if joins op.GreaterEqual (i + 1) then None else Some (standing op.ShiftRight (i + 2))))
      else (if joins op.GreaterEqual i then None else Some (standing op.Greater (i + 1)))

  abbrev pub infix_by : BinOp → ℕ → Option (Standing BinOp)
  infix_by op.Greater i = right_at i
  infix_by op.ShiftRight i = None
  infix_by op.ShiftRightZero i = None
  infix_by x i = Some (standing x (i + 1))

  abbrev pub infix_of : Sort → ℕ → Option (Standing BinOp)
  infix_of (s.Infix x) i = infix_by x i
  infix_of _ i = None

  unfoldable pub infix_at : ℕ → Option (Standing BinOp)
  infix_at i = infix_of (sort_at ts i) i

  -- an assignment that begins with the `>` at i
  unfoldable pub right_assign : ℕ → Option (Standing (Option BinOp))
  right_assign i =
      if joins op.Greater i
      then (if joins op.Greater (i + 1) then None
      else (if joins op.GreaterEqual (i + 1) then Some (standing (Some op.ShiftRightZero) (i + 3)) else None))
      else (if joins op.GreaterEqual i then Some (standing (Some op.ShiftRight) (i + 2)) else None)

  abbrev pub assign_of : Sort → ℕ → Option (Standing (Option BinOp))
  assign_of (s.Infix op.Greater) i = right_assign i
  assign_of (s.Assign (Some op.ShiftRight)) i = None
  assign_of (s.Assign (Some op.ShiftRightZero)) i = None
  assign_of (s.Assign x) i = Some (standing x (i + 1))
  assign_of _ i = None

  unfoldable pub assign_at : ℕ → Option (Standing (Option BinOp))
  assign_at i = assign_of (sort_at ts i) i

  -- how loose an infix operator or `instanceof` is, and looser than all where there is none
  abbrev pub level_in : Option (Standing BinOp) → Bool → ℕ
  level_in (Some x) asks = level_of x.is
  level_in None asks = if asks then 6 else 16

  unfoldable pub level_at : ℕ → ℕ
  level_at i = level_in (infix_at i) (is_keyword ts word.InstanceOf i)
