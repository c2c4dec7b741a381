-- What parsing needs of tokens, and of a function value that parses what is below.
use Rattle.std.specs.Prelude.{ℕ, ◌^◌, ◌<◌, ◌≤◌, List, length, Result}
use Rattle.std.specs.declared.alloc.Global.{Global}
use Rattle.std.specs.Borrow.{Bor}
use Rattle.java_tree.specs.declared.tree.Expr.{Expr}
use Rattle.java_tree.specs.declared.tree.TypeExpr.{TypeExpr}
use Rattle.java_tree.specs.View.{plain, type_plain}
use Rattle.java_grammar.specs.declared.token.Tok.{Tok}
use Rattle.java_grammar.specs.Reads.{from_at, to_at}
use Rattle.java_parse_term.specs.declared.parsed.Parsed.{Parsed}
use Rattle.java_parse_term.specs.declared.fault.SyntaxFault.{SyntaxFault}
use Rattle.java_parse_term.specs.Types.{read_type}
use Rattle.java_parse_term.specs.Parse.{parse}
use Rattle.java_parse_term.specs.Seen.{Reads, seen}

-- the token at i lies in the text
pub record IsIn (text : List ℕ) (ts : List Tok) (i : ℕ) : Type 0 where
  pub order : from_at ts i ≤ to_at ts i
  pub within : to_at ts i ≤ length text

-- Tokens that a parser can read: those of a text shorter than 2^32 bytes are such.
pub record Readable (text : List ℕ) (ts : List Tok) : Type 0 where
  pub few : length ts < 2 ^ 32
  pub inside : (i : ℕ) → IsIn text ts i

pub record Nests (text : List ℕ) (ts : List Tok) (limit : ℕ) (pre : Global → Bor (List ℕ) → Bor (List Tok) → ℕ → ℕ → ℕ → Type 0)
    (post : Global → Bor (List ℕ) → Bor (List Tok) → ℕ → ℕ → ℕ → Result (Parsed Expr) SyntaxFault → Type 0) : Type 0 where
  pub ready : Readable text ts
  pub callable : (alloc : Global) (bytes : Bor (List ℕ)) (toks : Bor (List Tok)) (k at : ℕ) → Readable bytes.now toks.now → pre alloc bytes toks limit k at
  pub reads : (alloc : Global) (bytes : Bor (List ℕ)) (toks : Bor (List Tok)) (k at : ℕ) (r : Result (Parsed Expr) SyntaxFault) → post alloc bytes toks limit k at r
      → Reads (seen plain) (parse bytes.now toks.now limit k at) r

pub record TypeNests (ts : List Tok) (limit : ℕ) (pre : Global → Bor (List Tok) → ℕ → ℕ → Type 0)
    (post : Global → Bor (List Tok) → ℕ → ℕ → Result (Parsed TypeExpr) SyntaxFault → Type 0) : Type 0 where
  pub few : length ts < 2 ^ 32
  pub callable : (alloc : Global) (toks : Bor (List Tok)) (at : ℕ) → length toks.now < 2 ^ 32 → pre alloc toks limit at
  pub reads : (alloc : Global) (toks : Bor (List Tok)) (at : ℕ) (r : Result (Parsed TypeExpr) SyntaxFault) → post alloc toks limit at r
      → Reads (seen type_plain) (read_type toks.now limit at) r
