-- The places of what is broken in texts.
use Rattle.std.proofs.Common.{◌≡◌, ℕ, Bool, false, not, ◌&&◌, zero, suc, ◌+◌, ◌<◌, ◌≤◌, inl, inr, List, [], ◌∷◌, length, Some, Result, Ok, Err, IfOk, slice_get, refl, ◌∙◌, subst, arith}
use Rattle.java_tree.specs.Names.{built_in_names}
use Rattle.java_tree.specs.declared.tree.Token.{Token}
use Rattle.java_lexer.specs.Lexing.{Lexes, Fails}
use Rattle.java_lexer.specs.Bytes.{is_backslash}
use Rattle.java_lexer.specs.Encoding.{IsEscapeAt, IsFirstOdd}
use Rattle.java_lexer.proofs.TokenLemmas as tokens
use Rattle.java_grammar.specs.Interned.{interned}
use Rattle.unit_grammar.specs.Sizes as size
use Rattle.source_files.specs.declared.trees.TreeStop.TheVariants as tree
use Rattle.source_files.specs.Held.{AreSmall}
use Rattle.source_files.specs.Trees.{Fault, Lexical, Tokens, LeftOut, NoTree, IsTokenPlace, BreaksHere, BreaksAt}
use Rattle.source_files.specs.Answers.{HasParsed}
use Rattle.refactor_app.specs.Words.{Files, inputs}
use Rattle.refactor_app.specs.Refusals.{IsAt}
use Rattle.edit_writer.specs.Places.{place_at}
use Rattle.report_text.specs.Report.{refused_at}

-- the byte that a fault names, if it names one, is in the text or its end
abbrev IsWithin : List ℕ → Fault → Type 0
IsWithin text (Lexical rule at) = at ≤ length text
IsWithin text Tokens = Unit {0}
IsWithin text (LeftOut rule at) = at ≤ length text
IsWithin text (NoTree at) = at ≤ length text

escape_within : (odd : Bool) (text : List ℕ) (at : ℕ) → IsEscapeAt odd text at → at ≤ length text
escape_within odd [] at h = absurd h
escape_within odd (b ∷ bs) zero h = omega arith
escape_within odd (b ∷ bs) (suc at) h = let le = escape_within (is_backslash b && not odd) bs at h in omega arith

odd_within : (text : List ℕ) (at : ℕ) → IsFirstOdd text at → at ≤ length text
odd_within text at (inl valid, first) = let short = valid.short in omega arith
odd_within text at (inr escape, first) = escape_within false text at escape

fails_within : (text : List ℕ) (rule at : ℕ) → Fails text rule at → at ≤ length text
fails_within text rule at (inl (n, odd)) = odd_within text at odd
fails_within text rule at (inr (r, n, b)) = let place = b.place in omega arith

token_within : (text : List ℕ) (ts : List Token) → Lexes text ts → (i : ℕ) (t : Token) → slice_get ts i ≡ Some t → t.span.from ≤ length text
token_within text ts lexes i t there = let w = tokens.within text ts lexes i t there in omega (arith, w.0, w.1)

place_within : (text : List ℕ) (ts : List Token) (at : ℕ) → Lexes text ts → IsTokenPlace text ts at → at ≤ length text
place_within text ts at lexes (inl (i, t, there, is)) = let w = token_within text ts lexes i t there in omega (arith, is, w)
place_within text ts at lexes (inr is) = omega (arith, is)

breaks_within : (names : List (List ℕ)) (first count : ℕ) (text : List ℕ) (fault : Fault) → BreaksHere names first count text fault → IsWithin text fault
breaks_within names first count text (Lexical rule at) h = fails_within text rule at h
breaks_within names first count text Tokens h = tt
breaks_within names first count text (LeftOut rule at) (ts, lexes, few, i, t, is, there, same) = let w = token_within text ts lexes i t there in omega (arith, same, w)
breaks_within names first count text (NoTree at) (ts, allowed, none, place) = place_within text ts at allowed.lexes place

-- the text that breaks a rule is one of the texts
abbrev IsAmong : List (List ℕ) → ℕ → Fault → Type 0
IsAmong texts k fault = (x : List ℕ) × (slice_get texts k ≡ Some x) × IsWithin x fault

breaks_among : (names : List (List ℕ)) (first count : ℕ) (texts : List (List ℕ)) (k : ℕ) (fault : Fault) → BreaksAt names first count texts k fault → IsAmong texts k fault
breaks_among names first count [] k fault h = absurd h
breaks_among names first count (x ∷ xs) zero fault h = (x, refl, breaks_within names first count x fault h)
breaks_among names first count (x ∷ xs) (suc k) fault (ts, allowed, u, is, more) =
    breaks_among (interned x ts names) (first + size.unit u) (count + length ts) xs k fault more

pub small_at : (texts : List (List ℕ)) (k : ℕ) (x : List ℕ) → AreSmall texts → slice_get texts k ≡ Some x → length x ≤ 1048576
small_at [] k x h e = absurd (cc)
small_at (y ∷ ys) zero x (room, more) e = let same : y ≡ x = cc in subst (λ (z : List ℕ). length z ≤ 1048576) same room
small_at (y ∷ ys) (suc k) x (room, more) e = small_at ys k x more e

pub low_at : (texts : List (List ℕ)) (k : ℕ) (x : List ℕ) → slice_get texts k ≡ Some x → k < length texts
low_at [] k x e = absurd (cc)
low_at (y ∷ ys) zero x e = omega arith
low_at (y ∷ ys) (suc k) x e = let h = low_at ys k x e in omega arith

-- what a refusal at a byte asks of a file and of the byte
pub record IsPlaced (texts : List (List ℕ)) (file at : ℕ) : Type 0 where
  pub low : file < length texts
  pub within : (x : List ℕ) → slice_get texts file ≡ Some x → (at ≤ length x) × (length x ≤ 1048576)

placed : (texts : List (List ℕ)) (file at : ℕ) → AreSmall texts → (y : List ℕ) → slice_get texts file ≡ Some y → at ≤ length y → IsPlaced texts file at
placed texts file at small y there le = record {
  low = low_at texts file y there;
  within = λ x e. let same : y ≡ x = cc in (subst (λ (z : List ℕ). at ≤ length z) same le, small_at texts file x small e);
}

pub lexical_placed : (texts : List (List ℕ)) (rule file at : ℕ) → AreSmall texts → HasParsed texts (Err (tree.Lexical rule file at)) → IsPlaced texts file at
lexical_placed texts rule file at small h = let a = breaks_among built_in_names 0 0 texts file (Lexical rule at) h in placed texts file at small a.0 a.1 a.2

pub left_out_placed : (texts : List (List ℕ)) (rule file at : ℕ) → AreSmall texts → HasParsed texts (Err (tree.LeftOut rule file at)) → IsPlaced texts file at
left_out_placed texts rule file at small h = let a = breaks_among built_in_names 0 0 texts file (LeftOut rule at) h in placed texts file at small a.0 a.1 a.2

pub no_tree_placed : (texts : List (List ℕ)) (file at : ℕ) → AreSmall texts → HasParsed texts (Err (tree.NoTree file at)) → IsPlaced texts file at
no_tree_placed texts file at small h = let a = breaks_among built_in_names 0 0 texts file (NoTree at) h in placed texts file at small a.0 a.1 a.2

-- the line of a refusal at a byte of a file
pub refused_there : {X E : Type 0} (bytes : X → List ℕ) (r : Result X E) (rule name text line : List ℕ) (fs : Files) (texts : List (List ℕ)) (k at : ℕ)
    → slice_get (inputs fs) k ≡ Some name → slice_get texts k ≡ Some text → line ≡ refused_at rule name (place_at text at) → IfOk r (λ l. bytes l ≡ line) → IfOk r (λ l. IsAt rule fs texts k at (bytes l))
refused_there bytes (Ok l) rule name text line fs texts k at named there same is = record { name = name; text = text; named = named; there = there; is = is ∙ same }
refused_there bytes (Err e) rule name text line fs texts k at named there same h = h
