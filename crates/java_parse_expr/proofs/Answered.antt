-- What is so of types and expressions, as statements read them; the tokens of a text can be read.
use Rattle.std.proofs.Common.{◌≡◌, ℕ, zero, suc, ◌^◌, slice_get, [], ◌∷◌, ◌<◌, ◌≤◌, max, Bool, true, false, List, Option, Some, None, Result, Ok, Err, IfOk, length, refl, sym, ap, subst, ◌∙◌, arith}
use Rattle.java_tree.specs.Plain.{TypeExpr, Expr, Stmt}
use Rattle.java_grammar.specs.declared.token.Tok.{Tok}
use Rattle.java_grammar.specs.declared.token.Sort.{Sort}
use Rattle.java_grammar.specs.declared.token.Sort.TheVariants as s
use Rattle.java_grammar.specs.Reads.{sort_at}
use Rattle.java_grammar.specs.Heights.{type_depth, expr_depth, stmt_depth}
use Rattle.java_grammar.specs.Expressions.{SpellsType, Spells, EndsAt, GoesOn}
use Rattle.java_tree.specs.declared.tree.Token.{Token}
use Rattle.java_lexer.specs.Lexing.{Lexes}
use Rattle.java_grammar.specs.Sorts.{AreToks}
use Rattle.java_grammar.specs.Reads.{from_at, to_at}
use Rattle.java_grammar.proofs.Reading.{as_many}
use Rattle.java_grammar.proofs.Lexed.{token_in}
use Rattle.java_parse_term.specs.Ready.{Readable, IsIn}
use Rattle.java_parse_term.specs.Types.{Read, type_end, read_type, goes_on}
use Rattle.java_parse_term.specs.Parse.{parse, expr_read}
use Rattle.java_parse_term.proofs.TypesSound.{type_fine}
use Rattle.java_parse_term.proofs.TypesComplete.{type_again, goes_on_not}
use Rattle.java_parse_term.proofs.Scans.{type_end_fine, type_end_again}
use Rattle.java_parse_term.proofs.Sound.{expr_sound}
use Rattle.java_parse_term.proofs.Complete.{expr_complete}
use Rattle.java_parse_expr.specs.Parse.{Part, part_of, type_under, expr_under}
use Rattle.java_parse_expr.proofs.Lists.{got}

part_step : {A Z : Type 0} (o : Option (Read A)) (g : Part A) → part_of o ≡ Some g → ((x : Read A) → o ≡ Some x → record { tree = x.tree; next = x.next } ≡ g → Z) → Z
part_step None g e use_it = absurd (cc)
part_step (Some x) g e use_it = use_it x refl (cc)

module _ (text : List ℕ) (ts : List Tok) where
  pub types_fine : (d i : ℕ) (g : Part TypeExpr) → type_under text ts d i ≡ Some g → SpellsType text ts g.tree i g.next × (type_depth g.tree < d)
  unfolding type_under
  types_fine d i g e =
      part_step (read_type ts d i) g e (λ x read same.
      let ok = type_fine text ts d i x read in
      subst (λ (y : Part TypeExpr). SpellsType text ts y.tree i y.next × (type_depth y.tree < d)) same (ok.spells, omega (arith, ok.deep, ok.low)))

  pub exprs_fine : (d k : ℕ) → 2 ≤ k → (i : ℕ) (g : Part Expr) → expr_under text ts d k i ≡ Some g → Spells text ts k g.tree i g.next × (expr_depth g.tree < d)
  unfolding expr_under parse
  exprs_fine zero k least i g e = absurd (cc)
  exprs_fine (suc d) k least i g e =
      part_step (parse text ts (suc d) k i) g e (λ x read same.
      let ok = expr_sound text ts k d i x least read in
      subst (λ (y : Part Expr). Spells text ts k y.tree i y.next × (expr_depth y.tree < suc d)) same (ok.0, omega (arith, ok.1, ok.2)))

  pub types_again : (d : ℕ) (x : TypeExpr) (i j : ℕ) → SpellsType text ts x i j → type_depth x < d → sort_at ts j ≡ s.Word → type_under text ts d i ≡ got x j
  unfolding type_under
  types_again d x i j p low word = rw (type_again text ts d x i j low p (goes_on_not text ts j (λ e. rw word at e))) refl

  pub scans : (x : TypeExpr) (i j : ℕ) → SpellsType text ts x i j → sort_at ts j ≡ s.Word → type_end ts i ≡ Some j
  scans x i j p word = type_end_again text ts x i j p (λ e. rw word at e)

  pub scanned : (i j : ℕ) → type_end ts i ≡ Some j → (x : TypeExpr) × SpellsType text ts x i j
  scanned i j e = let r = type_end_fine text ts i j e in (r.tree, r.spells)

  pub exprs_again : (d k : ℕ) → 2 ≤ k → k ≤ 15 → (e : Expr) (i j : ℕ) → Spells text ts k e i j → expr_depth e < d → EndsAt text ts (sort_at ts j) → expr_under text ts d k i ≡ got e j
  unfolding expr_under parse
  exprs_again zero k least most e i j p low ends = absurd (omega arith)
  exprs_again (suc d) k least most e i j p low ends = rw (expr_complete text ts d k e i j least most (omega arith) p ends) refl

-- ---- the tokens of a text

token_place : (text : List ℕ) (names : List (List ℕ)) (xs : List Token) (us : List Tok) (i : ℕ) (u : Tok) → AreToks text names xs us → slice_get us i ≡ Some u
    → (x : Token) × (slice_get xs i ≡ Some x) × (u.span ≡ x.span)
token_place text names [] [] i u are e = absurd (cc)
token_place text names [] (v ∷ vs) i u are e = absurd (cc)
token_place text names (x ∷ xs) [] i u are e = absurd are
token_place text names (x ∷ xs) (v ∷ vs) zero u (is, more) e = let same : v ≡ u = cc in (x, refl, rw (← same) is.span)
token_place text names (x ∷ xs) (v ∷ vs) (suc i) u (is, more) e = token_place text names xs vs i u more e

token_inside : (text : List ℕ) (names : List (List ℕ)) (tokens : List Token) (ts : List Tok) → Lexes text tokens → AreToks text names tokens ts → (i : ℕ) → IsIn text ts i
unfolding from_at to_at
token_inside text names tokens ts lexed are i = by_token (slice_get ts i) refl
  where
    by_token : (o : Option Tok) → slice_get ts i ≡ o → IsIn text ts i
    by_token None e = record { order = rw e (omega arith); within = rw e (omega arith) }
    by_token (Some u) e =
        let p = token_place text names tokens ts i u are e in
        let q = token_in text tokens lexed i p.0 p.1 in
        record { order = rw (e, p.2) q.order; within = rw (e, p.2) q.within }

pub readable : (text : List ℕ) (names : List (List ℕ)) (tokens : List Token) (ts : List Tok) → Lexes text tokens → AreToks text names tokens ts → length tokens < 2 ^ 32 → Readable text ts
readable text names tokens ts lexed are low = record { few = omega (arith, as_many text names tokens ts are); inside = λ i. token_inside text names tokens ts lexed are i }
