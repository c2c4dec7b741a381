-- Tests of tokens, and the places behind them.
use Rattle.std.specs.Prelude.{ℕ, ◌+◌, Bool, true, false, ◌&&◌, if◌then◌else◌, List, Option, Some, None}
use Rattle.std.specs.Option.{option_and_then}
use denote.Enum.Bare.{sameb}
use Rattle.java_tree.specs.contracts.tree.BinOp as op_type
use Rattle.java_tree.specs.declared.tree.BinOp.{BinOp}
use Rattle.java_grammar.specs.contracts.token.Mark as mark_type
use Rattle.java_grammar.specs.contracts.token.Keyword as keyword_type
use Rattle.java_grammar.specs.declared.token.Tok.{Tok}
use Rattle.java_grammar.specs.declared.token.Sort.{Sort}
use Rattle.java_grammar.specs.declared.token.Sort.TheVariants as s
use Rattle.java_grammar.specs.declared.token.Keyword.{Keyword}
use Rattle.java_grammar.specs.declared.token.Mark.{Mark}
use Rattle.java_grammar.specs.declared.token.Mark.TheVariants as m
use Rattle.java_grammar.specs.Reads.{sort_at}

infixl 10 ◌>>=◌
abbrev pub ◌>>=◌ : {A B : Type 0} → Option A → (A → Option B) → Option B
o >>= f = option_and_then f o

-- what follows of a value that is there, or else the default
abbrev pub given : {A B : Type 0} → Option A → (A → B) → B → B
given None f d = d
given (Some x) f d = f x

unfoldable pub same_mark : Mark → Mark → Bool
same_mark = sameb mark_type.the_type

unfoldable pub same_keyword : Keyword → Keyword → Bool
same_keyword = sameb keyword_type.the_type

unfoldable pub same_op : BinOp → BinOp → Bool
same_op = sameb op_type.the_type

abbrev pub mark_in : Mark → Sort → Bool
mark_in x (s.Mark y) = same_mark y x
mark_in x _ = false

abbrev pub keyword_in : Keyword → Sort → Bool
keyword_in x (s.Keyword y) = same_keyword y x
keyword_in x _ = false

abbrev pub infix_in : BinOp → Sort → Bool
infix_in x (s.Infix y) = same_op y x
infix_in x _ = false

abbrev pub word_in : Sort → Bool
word_in s.Word = true
word_in _ = false

module _ (ts : List Tok) where
  unfoldable pub is_mark : Mark → ℕ → Bool
  is_mark x i = mark_in x (sort_at ts i)

  unfoldable pub is_keyword : Keyword → ℕ → Bool
  is_keyword x i = keyword_in x (sort_at ts i)

  unfoldable pub is_infix : BinOp → ℕ → Bool
  is_infix x i = infix_in x (sort_at ts i)

  unfoldable pub is_word : ℕ → Bool
  is_word i = word_in (sort_at ts i)

  -- the place behind such a token
  unfoldable pub after_mark : Mark → ℕ → Option ℕ
  after_mark x i = if is_mark x i then Some (i + 1) else None

  unfoldable pub after_keyword : Keyword → ℕ → Option ℕ
  after_keyword x i = if is_keyword x i then Some (i + 1) else None

  unfoldable pub after_infix : BinOp → ℕ → Option ℕ
  after_infix x i = if is_infix x i then Some (i + 1) else None

  unfoldable pub after_word : ℕ → Option ℕ
  after_word i = if is_word i then Some (i + 1) else None

  -- the place of the identifier behind a dot
  unfoldable pub dotted : ℕ → Option ℕ
  dotted i = if is_mark m.Dot i && is_word (i + 1) then Some (i + 1) else None
