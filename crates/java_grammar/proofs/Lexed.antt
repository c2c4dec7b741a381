-- Where the tokens of a text stand in it.
use Rattle.std.proofs.Common.{◌≡◌, ◌≤◌, ℕ, List, Some, length, slice_get, arith}
use Rattle.std.specs.Str.{IsUtf8}
use Rattle.java_tree.specs.declared.tree.Token.{Token}
use Rattle.java_lexer.specs.Lexing.{Lexes}
use Rattle.java_lexer.proofs.TokenLemmas.{within, token_bytes}
use Rattle.java_grammar.specs.Sorts.{bytes_in}

pub record IsIn (text : List ℕ) (t : Token) : Type 0 where
  pub order : t.span.from ≤ t.span.to
  pub within : t.span.to ≤ length text
  pub utf8 : IsUtf8 (bytes_in text t.span)

pub token_in : (text : List ℕ) (ts : List Token) → Lexes text ts → (i : ℕ) (t : Token) → slice_get ts i ≡ Some t → IsIn text t
token_in text ts l i t e =
    let place = within text ts l i t e in
    let bytes = token_bytes text ts l i t e in
    record { order = omega arith; within = place.1; utf8 = bytes.0 }
