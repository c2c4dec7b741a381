-- What statements need: few tokens, and a function value that parses statements of lower depth.
use Rattle.std.specs.Prelude.{ℕ, Bool, List, Result}
use Rattle.std.specs.declared.alloc.Global.{Global}
use Rattle.std.specs.Borrow.{Bor}
use Rattle.java_tree.specs.declared.tree.Stmt.{Stmt}
use Rattle.java_tree.specs.View.{stmt_plain}
use Rattle.java_grammar.specs.declared.token.Tok.{Tok}
use Rattle.java_parse_term.specs.declared.fault.SyntaxFault.{SyntaxFault}
use Rattle.java_parse_term.specs.Ready.{Readable}
use Rattle.java_parse_term.specs.Seen.{Reads}
use Rattle.java_parse_expr.specs.declared.got.Got.{Got}
use Rattle.java_parse_expr.specs.Parse.{under}
use Rattle.java_parse_expr.specs.Seen.{seen}

pub record Nests (text : List ℕ) (ts : List Tok) (limit : ℕ) (pre : Global → Bor (List ℕ) → Bor (List Tok) → ℕ → Bool → Bool → ℕ → Type 0)
    (post : Global → Bor (List ℕ) → Bor (List Tok) → ℕ → Bool → Bool → ℕ → Result (Got Stmt) SyntaxFault → Type 0) : Type 0 where
  pub ready : Readable text ts
  pub callable : (alloc : Global) (bytes : Bor (List ℕ)) (toks : Bor (List Tok)) (inner w : Bool) (at : ℕ) → Readable bytes.now toks.now
      → pre alloc bytes toks limit inner w at
  pub reads : (alloc : Global) (bytes : Bor (List ℕ)) (toks : Bor (List Tok)) (inner w : Bool) (at : ℕ) (r : Result (Got Stmt) SyntaxFault)
      → post alloc bytes toks limit inner w at r → Reads (seen stmt_plain) (under bytes.now toks.now limit inner w at) r
