-- Past the end nothing is read.
use Rattle.std.proofs.Common.{◌≡◌, ℕ, ◌≤◌, List, length, Option, None, Result, Ok, Err, refl}
use Rattle.java_tree.specs.Plain.{Expr}
use Rattle.java_grammar.specs.declared.token.Tok.{Tok}
use Rattle.java_parse_term.specs.declared.fault.SyntaxFault.{SyntaxFault}
use Rattle.java_parse_term.specs.declared.fault.SyntaxFault.TheVariants.{Bad, NoMemory}
use Rattle.java_parse_term.specs.Marks.{is_mark}
use Rattle.java_parse_term.specs.Types.{Read}
use Rattle.java_parse_term.specs.Parse.{is_cast, operand, primary, postfix, unary}
use Rattle.java_parse_term.specs.Seen.{Reads, IsRefused}
use Rattle.java_parse_term.proofs.TokLemmas.{nothing_past}

pub unary_past : (text : List ℕ) (ts : List Tok) (limit : ℕ) (below : ℕ → ℕ → Option (Read Expr)) (i : ℕ) → length ts ≤ i → unary text ts limit below i ≡ None
unfolding unary is_cast is_mark postfix primary operand
unary_past text ts limit below i past = rw (nothing_past ts i past) refl

pub refused : {X A : Type 0} (view : X → A) (o : Option A) (r : Result X SyntaxFault) → o ≡ None → IsRefused r → Reads view o r
refused view o (Ok a) e h = absurd h
refused view o (Err (Bad token)) e h = e
refused view o (Err NoMemory) e h = absurd h
