-- Texts parsed one after the other.
use Rattle.std.proofs.Common.{◌≡◌, ◌<◌, ◌≤◌, ℕ, zero, suc, ◌+◌, List, [], ◌∷◌, ◌++◌, length, map, drop, slice_get, Option, Some, None, Err, refl, sym, ap, ◌∙◌, inl, inr, arith, subst, get_or}
use Rattle.std.proofs.lemmas.Option.{slice_get_read}
use Rattle.std.proofs.lemmas.List.{append-nil}
use Rattle.std.proofs.Math.ListN.{drop_of_length-le}
use Rattle.java_tree.specs.declared.tree.Token.{Token}
use Rattle.java_tree.specs.declared.tree.SourceUnit as code
use Rattle.java_tree.specs.Names.{IsFront, AreDistinct, IsTable, built_in_names}
use Rattle.java_tree.specs.Plain.{SourceUnit}
use Rattle.java_tree.specs.View.{unit_plain}
use Rattle.java_tree.proofs.Tables.{front_of_front, built_in_table}
use Rattle.java_lexer.specs.Lexing.{Lexes}
use Rattle.java_lexer.proofs.TokenLemmas.{count}
use Rattle.java_grammar.specs.Interned.{interned}
use Rattle.java_grammar.proofs.Reading.{as_many}
use Rattle.java_parse_decl.specs.Found.{IsUnit}
use Rattle.unit_grammar.specs.Numbers as units
use Rattle.unit_grammar.specs.Sizes as size
use Rattle.unit_grammar.proofs.Counts.{unit_count}
use Rattle.unit_grammar.proofs.Extents.{unit_spans}
use Rattle.left_out.specs.Rules.{rule_of, IsFirst}
use Rattle.source_files.specs.declared.trees.TreeStop.{TreeStop}
use Rattle.source_files.specs.declared.trees.TreeStop.TheVariants as tree
use Rattle.source_files.specs.Held.{AreSmall, most_of_one}
use Rattle.source_files.specs.Trees.{most_tokens, AreAllowed, AreTrees, Fault, IsTokenPlace, BreaksHere, BreaksAt, Lexical, Tokens, LeftOut, NoTree}
use Rattle.source_files.specs.Steps.{place_at, Stops, IsNext}
use Rattle.source_files.specs.Answers.{HasParsed}
use Rattle.source_files.proofs.Again.{unit_again}
use Rattle.source_files.proofs.Reading.{drop_at}

-- the text that is read at a place
pub text_at : (xs : List (List ℕ)) (i : ℕ) (x y : List ℕ) → i < length xs → x ≡ get_or xs i x → y ≡ x → slice_get xs i ≡ Some y
text_at xs i x y h e same = slice_get_read xs (length xs) i x refl h e ∙ ap Some (sym same)

pub small_at : (xs : List (List ℕ)) (i : ℕ) (x : List ℕ) → AreSmall xs → slice_get xs i ≡ Some x → length x ≤ most_of_one
small_at [] i x small e = absurd (cc)
small_at (y ∷ ys) zero x small e = let same : y ≡ x = cc in subst (λ z. length z ≤ most_of_one) same small.0
small_at (y ∷ ys) (suc i) x small e = small_at ys i x small.1 e

-- no text has more tokens than bytes
pub tokens_few : (text : List ℕ) (tokens : List Token) → Lexes text tokens → length text ≤ most_of_one → length tokens ≤ 1048576
tokens_few text tokens lexed small = omega (arith, count text tokens lexed, small)

-- ---- places

pub token_place : (text : List ℕ) (tokens : List Token) (i : ℕ) → IsTokenPlace text tokens (place_at text tokens i)
token_place text tokens i = by_token (slice_get tokens i) refl
  where
    by_token : (o : Option Token) → slice_get tokens i ≡ o → IsTokenPlace text tokens (place_at text tokens i)
    by_token None e = inr (rw e refl)
    by_token (Some t) e = inl (i, t, e, rw e refl)

-- The token that is left out is there.
pub left_place : (text : List ℕ) (tokens : List Token) (i rule : ℕ) → IsFirst text tokens i rule → (t : Token) × (slice_get tokens i ≡ Some t) × (place_at text tokens i ≡ t.span.from)
left_place text tokens i rule first = by_token (slice_get tokens i) refl
  where
    by_token : (o : Option Token) → slice_get tokens i ≡ o → (t : Token) × (slice_get tokens i ≡ Some t) × (place_at text tokens i ≡ t.span.from)
    by_token None e = let none : rule_of text tokens i ≡ None = rw e refl in let broken = first.rule in absurd (cc)
    by_token (Some t) e = (t, e, rw e refl)

-- ---- numbers

pub unit_few : (text : List ℕ) (names : List (List ℕ)) (tokens : List Token) (first : ℕ) (u : SourceUnit) → IsUnit text names tokens first u → size.unit u ≤ length tokens + 1
unit_few text names tokens first u (ts, are, y, spells, low, is) =
    let again : units.unit u first ≡ units.unit y first = rw is (unit_again y first) in
    let count : first + size.unit u ≡ first + size.unit y = sym (unit_count u first) ∙ ap (λ r. r.1) again ∙ unit_count y first in
    omega (arith, count, unit_spans text ts y spells, as_many text names tokens ts are)

-- a numbered tree is numbered again
pub unit_kept : (text : List ℕ) (names : List (List ℕ)) (tokens : List Token) (first : ℕ) (u new : SourceUnit) (next : ℕ) → IsUnit text names tokens first u
    → (new, next) ≡ units.unit u first → new ≡ u
unit_kept text names tokens first u new next (ts, are, y, spells, low, is) e =
    ap (λ r. r.0) e ∙ rw is (ap (λ r. r.0) (unit_again y first))

-- ---- one text

module _ (text : List ℕ) (names new : List (List ℕ)) (tokens : List Token) (first : ℕ) (table : new ≡ interned text tokens names) where
  pub next_is : (u w : code.SourceUnit) (next : ℕ) → IsUnit text new tokens first (unit_plain u) → next ≡ first + size.unit (unit_plain u)
      → (unit_plain w, next) ≡ units.unit (unit_plain u) first → IsNext text names tokens first w next
  next_is u w next is number again =
      let kept : unit_plain w ≡ unit_plain u = unit_kept text new tokens first (unit_plain u) (unit_plain w) next is again in
      record {
        unit = subst (λ ns. IsUnit text ns tokens first (unit_plain w)) table (subst (λ y. IsUnit text new tokens first y) (sym kept) is);
        number = number ∙ ap (λ y. first + size.unit y) (sym kept);
        few = omega (arith, number, unit_few text new tokens first (unit_plain u) is);
      }

  pub none_is : (count token place : ℕ) → AreAllowed count text tokens → ((x : SourceUnit) → IsUnit text new tokens first x → ⊥) → place ≡ place_at text tokens token
      → BreaksHere names first count text (NoTree place)
  none_is count token place allowed none at =
      (tokens, allowed, (λ x is. none x (subst (λ ns. IsUnit text ns tokens first x) (sym table) is)), subst (λ n. IsTokenPlace text tokens n) (sym at) (token_place text tokens token))

pub left_is : (names : List (List ℕ)) (first count : ℕ) (text : List ℕ) (tokens : List Token) (i rule place : ℕ) → Lexes text tokens → count + length tokens ≤ most_tokens
    → IsFirst text tokens i rule → place ≡ place_at text tokens i → BreaksHere names first count text (LeftOut rule place)
left_is names first count text tokens i rule place lexed few is at =
    let (t, there, begins) = left_place text tokens i rule is in
    (tokens, lexed, few, i, t, is, there, at ∙ begins)

-- ---- the texts so far

-- i texts are parsed, and the others decide how it ends
pub record Parsing (texts : List (List ℕ)) (i first count : ℕ) (names : List (List ℕ)) (units : List code.SourceUnit) : Type 0 where
  pub trees : (us : List SourceUnit) (new : List (List ℕ)) → AreTrees names first count (drop i texts) us new → AreTrees built_in_names 0 0 texts (map unit_plain units ++ us) new
  pub breaks : (k : ℕ) (fault : Fault) → BreaksAt names first count (drop i texts) k fault → BreaksAt built_in_names 0 0 texts (k + i) fault
  pub table : IsTable names
  pub few : count ≤ most_tokens
  pub nodes : first ≤ count + i
  pub known : length names ≤ 19 + count

pub parsing_none : (texts : List (List ℕ)) → Parsing texts 0 0 0 built_in_names []
parsing_none texts = record {
  trees = λ us new h. h;
  breaks = λ k fault h. let e : k ≡ k + 0 = omega arith in subst (λ n. BreaksAt built_in_names 0 0 texts n fault) e h;
  table = built_in_table;
  few = omega arith;
  nodes = omega arith;
  known = omega arith;
}

map_more : {A B : Type 0} (f : A → B) (xs : List A) (x : A) (ys : List B) → map f (xs ++ x ∷ []) ++ ys ≡ map f xs ++ f x ∷ ys
map_more f [] x ys = refl
map_more f (y ∷ xs) x ys = ap (λ zs. f y ∷ zs) (map_more f xs x ys)

module _ (texts : List (List ℕ)) (i first count : ℕ) (names : List (List ℕ)) (units : List code.SourceUnit) (p : Parsing texts i first count names units)
    (x : List ℕ) (at : slice_get texts i ≡ Some x) where
  pub parsing_more : (tokens : List Token) (u : code.SourceUnit) (next : ℕ) (new : List (List ℕ)) → AreAllowed count x tokens → IsNext x names tokens first u next
      → new ≡ interned x tokens names → IsFront names new → (AreDistinct names → AreDistinct new) → length new ≤ length names + length tokens
      → Parsing texts (i + 1) next (count + length tokens) new (units ++ u ∷ [])
  parsing_more tokens u next new allowed is table front distinct grown =
      let one_more : i + 1 ≡ suc i = omega arith in
      let cut : drop i texts ≡ x ∷ drop (i + 1) texts = rw one_more (drop_at texts i x at) in
      record {
        trees = λ us last h.
            let rest = subst (λ ns. AreTrees ns (first + size.unit (unit_plain u)) (count + length tokens) (drop (i + 1) texts) us last) table
            (subst (λ n. AreTrees new n (count + length tokens) (drop (i + 1) texts) us last) is.number h) in
            subst (λ vs. AreTrees built_in_names 0 0 texts vs last) (sym (map_more unit_plain units u us))
            (p.trees (unit_plain u ∷ us) last (subst (λ ts. AreTrees names first count ts (unit_plain u ∷ us) last) (sym cut) (tokens, allowed, is.unit, rest)));
        breaks = λ k fault h.
            let e : suc k + i ≡ k + (i + 1) = omega arith in
            let rest = subst (λ ns. BreaksAt ns (first + size.unit (unit_plain u)) (count + length tokens) (drop (i + 1) texts) k fault) table
            (subst (λ n. BreaksAt new n (count + length tokens) (drop (i + 1) texts) k fault) is.number h) in
            subst (λ n. BreaksAt built_in_names 0 0 texts n fault) e
            (p.breaks (suc k) fault (subst (λ ts. BreaksAt names first count ts (suc k) fault) (sym cut) (tokens, allowed, unit_plain u, is.unit, rest)));
        table = record { distinct = distinct p.table.distinct; built_in = front_of_front built_in_names names new p.table.built_in front };
        few = allowed.few;
        nodes = omega (arith, is.few, p.nodes);
        known = omega (arith, grown, p.known);
      }

  here : (fault : Fault) → BreaksHere names first count x fault → BreaksAt built_in_names 0 0 texts i fault
  here fault h =
      let e : 0 + i ≡ i = omega arith in
      subst (λ n. BreaksAt built_in_names 0 0 texts n fault) e (p.breaks 0 fault (subst (λ ts. BreaksAt names first count ts 0 fault) (sym (drop_at texts i x at)) h))

  -- what this text breaks
  pub parsing_stops : (stop : TreeStop) → Stops names first count x i stop → HasParsed texts (Err stop)
  parsing_stops (tree.Lexical rule file place) (e, h) = subst (λ k. BreaksAt built_in_names 0 0 texts k (Lexical rule place)) (sym e) (here (Lexical rule place) h)
  parsing_stops tree.Tokens h = (i, here Tokens h)
  parsing_stops (tree.LeftOut rule file place) (e, h) = subst (λ k. BreaksAt built_in_names 0 0 texts k (LeftOut rule place)) (sym e) (here (LeftOut rule place) h)
  parsing_stops (tree.NoTree file place) (e, h) = subst (λ k. BreaksAt built_in_names 0 0 texts k (NoTree place)) (sym e) (here (NoTree place) h)
  parsing_stops tree.NoMemory h = tt

pub parsing_all : (texts : List (List ℕ)) (i first count : ℕ) (names : List (List ℕ)) (units : List code.SourceUnit) → Parsing texts i first count names units → length texts ≤ i
    → AreTrees built_in_names 0 0 texts (map unit_plain units) names × IsTable names
parsing_all texts i first count names units p past = (
  subst (λ us. AreTrees built_in_names 0 0 texts us names) (append-nil (map unit_plain units))
      (p.trees [] names (subst (λ ts. AreTrees names first count ts [] names) (sym (drop_of_length-le texts past)) (refl, refl))),
  p.table,
)
