-- The tokens of pieces.
use Rattle.std.proofs.Common.{◌≡◌, ◌≤◌, ◌<◌, ℕ, zero, suc, ◌+◌, ◌-◌, true, List, [], ◌∷◌, ◌++◌, length, take, drop, slice_get, get_or, Option, Some, None, Ok, Err, ◌⊎◌, inl, inr, refl, sym, ap, subst, ◌∙◌, arith, add-zero, length-drop}
use Rattle.std.proofs.lemmas.List.{drop-drop, append-nil, take-append-drop, length-take-le, get_or-drop}
use Rattle.std.proofs.lemmas.Str.{IsUtf8-take, IsUtf8-drop}
use Rattle.std.specs.Str.{IsUtf8, IsCharBoundary}
use Rattle.java_tree.specs.declared.tree.Token.{Token}
use Rattle.java_tree.specs.declared.tree.Kind.{Kind}
use Rattle.java_lexer.specs.declared.piece.Class.{Class}
use Rattle.java_lexer.specs.declared.piece.Class.TheVariants as class
use Rattle.java_lexer.specs.declared.piece.Piece.{Piece}
use Rattle.java_lexer.specs.declared.fault.LexFault.TheVariants.{Bad}
use Rattle.std.proofs.lemmas.Bool.Decides.{nat_tests}
use Rattle.java_lexer.specs.Bytes.{is_blank, is_start, is_digit, is_dot, is_slash, is_quote, is_double_quote, is_operator}
use Rattle.java_lexer.specs.Pieces.{IsFront}
use Rattle.java_lexer.specs.Faults.{IsFirst}
use Rattle.java_lexer.specs.Lexing.{kind, Covers, with_token, tokens_of, Lexes, Fails}
use Rattle.java_lexer.proofs.Apart.{nonzero_digit, zero_digit}
use Rattle.java_lexer.proofs.LiteralLemmas.{pair_operator, triple_operator}
use Rattle.java_lexer.proofs.Bounds.{local_front}
use Rattle.java_lexer.proofs.LexLemmas.{only_tokens, only_fault, first_some}

-- ---- one lexing

pub one_tokens : (text : List ℕ) (ts us : List Token) → Lexes text ts → Lexes text us → ts ≡ us
one_tokens text ts us a b = only_tokens text (Ok ts) a us b

pub one_fault : (text : List ℕ) (m n at place : ℕ) → Fails text m at → Fails text n place → (m ≡ n) × (at ≡ place)
one_fault text m n at place a b = only_fault text (Err (Bad m at)) a n place b

pub never_both : (text : List ℕ) (ts : List Token) (n at : ℕ) → Lexes text ts → Fails text n at → ⊥
never_both text ts n at a b = only_fault text (Ok ts) a n at b

-- ---- the piece of a token

pub front_le : (p : Piece) (bs : List ℕ) → IsFirst p bs → p.len ≤ length bs
front_le p bs f = (local_front p.class).fits p.len bs f.front

abbrev pub token_at : Kind → ℕ → ℕ → Token
token_at k at len = record { kind = k; span = record { from = at; to = at + len } }

-- the text is at its end, or a piece begins
abbrev pub Begun : List ℕ → Type 0
Begun bs = (bs ≡ []) ⊎ ((q : Piece) × IsFirst q bs)

pub begun : (bs : List ℕ) (ps : List Piece) → Covers bs ps [] → Begun bs
begun bs [] c = inl c
begun bs (p ∷ ps) (f, c) = inr (p, f)

-- a token is a piece that begins some bytes behind the start
pub record Found (bs : List ℕ) (at : ℕ) (t : Token) : Type 0 where
  pub place : ℕ
  pub piece : Piece
  pub from_is : t.span.from ≡ at + place
  pub to_is : t.span.to ≡ at + place + piece.len
  pub first : IsFirst piece (drop place bs)
  pub kind_is : kind piece.class (take piece.len (drop place bs)) ≡ Some t.kind
  pub behind : Begun (drop piece.len (drop place bs))

found_later : (bs : List ℕ) (at n : ℕ) (t : Token) → Found (drop n bs) (at + n) t → Found bs at t
found_later bs at n t f =
    let e : drop f.place (drop n bs) ≡ drop (n + f.place) bs = drop-drop f.place n bs in
    record {
      place = n + f.place;
      piece = f.piece;
      from_is = omega (arith, f.from_is);
      to_is = omega (arith, f.to_is);
      first = subst (IsFirst f.piece) e f.first;
      kind_is = subst (λ (cs : List ℕ). kind f.piece.class (take f.piece.len cs) ≡ Some t.kind) e f.kind_is;
      behind = subst (λ (cs : List ℕ). Begun (drop f.piece.len cs)) e f.behind;
    }

pub found : (at : ℕ) (bs : List ℕ) (ps : List Piece) → Covers bs ps [] → (i : ℕ) (t : Token) → slice_get (tokens_of at bs ps) i ≡ Some t → Found bs at t
found at bs [] c i t e = absurd (cc)
found at bs (p ∷ ps) (f, c) i t e = by_kind (λ i e. found (at + p.len) (drop p.len bs) ps c i t e) _ refl i e
  where
    by_kind : ((i : ℕ) → slice_get (tokens_of (at + p.len) (drop p.len bs) ps) i ≡ Some t → Found (drop p.len bs) (at + p.len) t) → (o : Option Kind) → kind p.class (take p.len bs) ≡ o → (i : ℕ) → slice_get (with_token o at p.len (tokens_of (at + p.len) (drop p.len bs) ps)) i ≡ Some t → Found bs at t
    by_kind later None k i e = found_later bs at p.len t (later i e)
    by_kind later (Some a) k (suc i) e = found_later bs at p.len t (later i e)
    by_kind later (Some a) k zero e =
        let same : token_at a at p.len ≡ t = cc in
        subst (Found bs at) same (record { place = 0; piece = p; from_is = omega arith; to_is = omega arith; first = f; kind_is = k; behind = begun (drop p.len bs) ps c })

pub within : (text : List ℕ) (ts : List Token) → Lexes text ts → (i : ℕ) (t : Token) → slice_get ts i ≡ Some t → (t.span.from < t.span.to) × (t.span.to ≤ length text)
within text ts l i t e =
    let f = found 0 text l.pieces l.covers i t (subst (λ (us : List Token). slice_get us i ≡ Some t) l.tokens e) in
    let some = first_some f.piece (drop f.place text) f.first in
    let le = front_le f.piece (drop f.place text) f.first in
    let len = length-drop f.place text in
    (omega (arith, f.from_is, f.to_is, some.0), omega (arith, f.to_is, le, len, some.1))

-- later tokens begin at the end of a piece or behind it
later_from : (at : ℕ) (bs : List ℕ) (ps : List Piece) → Covers bs ps [] → (i : ℕ) (t : Token) → slice_get (tokens_of at bs ps) i ≡ Some t → at ≤ t.span.from
later_from at bs ps c i t e = let f = found at bs ps c i t e in omega (arith, f.from_is)

order_of : (at : ℕ) (bs : List ℕ) (ps : List Piece) → Covers bs ps [] → (i j : ℕ) (a b : Token) → i < j → slice_get (tokens_of at bs ps) i ≡ Some a
    → slice_get (tokens_of at bs ps) j ≡ Some b → a.span.to ≤ b.span.from
order_of at bs [] c i j a b lt e f = absurd (cc)
order_of at bs (p ∷ ps) (g, c) i j a b lt e f = by_kind (λ i j lt e f. order_of (at + p.len) (drop p.len bs) ps c i j a b lt e f) (kind p.class (take p.len bs)) i j lt e f
  where
    by_kind : ((i j : ℕ) → i < j → slice_get (tokens_of (at + p.len) (drop p.len bs) ps) i ≡ Some a → slice_get (tokens_of (at + p.len) (drop p.len bs) ps) j ≡ Some b → a.span.to ≤ b.span.from) → (o : Option Kind) (i j : ℕ) → i < j → slice_get (with_token o at p.len (tokens_of (at + p.len) (drop p.len bs) ps)) i ≡ Some a
        → slice_get (with_token o at p.len (tokens_of (at + p.len) (drop p.len bs) ps)) j ≡ Some b → a.span.to ≤ b.span.from
    by_kind later None i j lt e f = later i j lt e f
    by_kind later (Some k) i zero lt e f = absurd (omega arith)
    by_kind later (Some k) (suc i) (suc j) lt e f = later i j (omega arith) e f
    by_kind later (Some k) zero (suc j) lt e f =
        let same : token_at k at p.len ≡ a = cc in
        let to : at + p.len ≡ a.span.to = ap (λ (t : Token). t.span.to) same in
        let le = later_from (at + p.len) (drop p.len bs) ps c j b f in
        omega arith

pub in_order : (text : List ℕ) (ts : List Token) → Lexes text ts → (i j : ℕ) (a b : Token) → i < j → slice_get ts i ≡ Some a → slice_get ts j ≡ Some b → a.span.to ≤ b.span.from
in_order text ts l i j a b lt e f =
    order_of 0 text l.pieces l.covers i j a b lt (subst (λ (us : List Token). slice_get us i ≡ Some a) l.tokens e) (subst (λ (us : List Token). slice_get us j ≡ Some b) l.tokens f)

count_of : (at : ℕ) (bs : List ℕ) (ps : List Piece) → Covers bs ps [] → length (tokens_of at bs ps) ≤ length bs
count_of at bs [] c = omega arith
count_of at bs (p ∷ ps) (g, c) = by_kind (kind p.class (take p.len bs)) (count_of (at + p.len) (drop p.len bs) ps c)
  where
    by_kind : (o : Option Kind) → length (tokens_of (at + p.len) (drop p.len bs) ps) ≤ length (drop p.len bs) → length (with_token o at p.len (tokens_of (at + p.len) (drop p.len bs) ps)) ≤ length bs
    by_kind None le = let len = length-drop p.len bs in omega arith
    by_kind (Some k) le = let len = length-drop p.len bs in let some = first_some p bs g in let fits = front_le p bs g in omega (arith, len, some.0)

pub count : (text : List ℕ) (ts : List Token) → Lexes text ts → length ts ≤ length text
count text ts l = subst (λ (us : List Token). length us ≤ length text) (sym l.tokens) (count_of 0 text l.pieces l.covers)

-- ---- the bytes of a token

blank_small : (b : ℕ) → is_blank b ≡ true → b < 128
blank_small b e = grind (arith, nat_tests)

start_small : (b : ℕ) → is_start b ≡ true → b < 128
start_small b e = grind (arith, nat_tests)

digit_small : (b : ℕ) → is_digit b ≡ true → b < 128
digit_small b e = grind (arith, nat_tests)

operator_small : (b : ℕ) → is_operator b ≡ true → b < 128
operator_small b e = grind (arith, nat_tests)

slash_small : (b : ℕ) → is_slash b ≡ true → b < 128
slash_small b e = grind (arith, nat_tests)

dot_small : (b : ℕ) → is_dot b ≡ true → b < 128
dot_small b e = grind (arith, nat_tests)

quote_small : (b : ℕ) → is_quote b ≡ true → b < 128
quote_small b e = grind (arith, nat_tests)

double_quote_small : (b : ℕ) → is_double_quote b ≡ true → b < 128
double_quote_small b e = grind (arith, nat_tests)

-- each piece begins with an ASCII byte
pub front_small : (c : Class) (n b : ℕ) (bs : List ℕ) → IsFront c n (b ∷ bs) → b < 128
front_small class.Blank zero b bs h = absurd h
front_small class.Blank (suc n) b bs (e, h) = blank_small b e
front_small class.LineComment zero b bs h = absurd h
front_small class.LineComment (suc n) b bs (e, h) = slash_small b e
front_small class.BlockComment zero b bs h = absurd h
front_small class.BlockComment (suc n) b bs (e, h) = slash_small b e
front_small class.Word zero b bs h = absurd h
front_small class.Word (suc n) b bs (e, h) = start_small b e
front_small class.Integer zero b bs (inl h) = absurd h
front_small class.Integer zero b bs (inr (inl h)) = absurd h
front_small class.Integer zero b bs (inr (inr h)) = absurd h
front_small class.Integer (suc n) b bs (inl (e, h)) = digit_small b (nonzero_digit b e)
front_small class.Integer (suc n) b bs (inr (inl (e, h))) = digit_small b (zero_digit b e)
front_small class.Integer (suc n) b bs (inr (inr (e, h))) = digit_small b (zero_digit b e)
front_small class.Floating zero b bs (inl h) = absurd h
front_small class.Floating zero b bs (inr h) = absurd h
front_small class.Floating (suc n) b bs (inl (e, h)) = digit_small b e
front_small class.Floating (suc n) b bs (inr (e, h)) = dot_small b e
front_small class.Character zero b bs h = absurd h
front_small class.Character (suc n) b bs (e, h) = quote_small b e
front_small class.Text zero b bs h = absurd h
front_small class.Text (suc n) b bs (e, h) = double_quote_small b e
front_small class.Operator zero b bs h = absurd h
front_small class.Operator (suc zero) b bs h = operator_small b h
front_small class.Operator (suc (suc zero)) b [] h = absurd h
front_small class.Operator (suc (suc zero)) b (c ∷ bs) h = operator_small b (pair_operator b c h)
front_small class.Operator (suc (suc (suc zero))) b [] h = absurd h
front_small class.Operator (suc (suc (suc zero))) b (c ∷ []) h = absurd h
front_small class.Operator (suc (suc (suc zero))) b (c ∷ d ∷ bs) h = operator_small b (triple_operator b c d h)
front_small class.Operator (suc (suc (suc (suc n)))) b bs h = absurd h

begun_small : (bs : List ℕ) → Begun bs → get_or bs 0 0 < 128
begun_small [] g = omega arith
begun_small (b ∷ bs) (inl e) = absurd (omega (arith, ap length e))
begun_small (b ∷ bs) (inr (q, f)) = front_small q.class q.len b bs f.front

pub boundary : (bs : List ℕ) (n : ℕ) → n ≤ length bs → Begun (drop n bs) → IsCharBoundary bs n
boundary bs n le g = (le, wide)
  where
    same : get_or (drop n bs) 0 0 ≡ get_or bs n 0
    same = get_or-drop n bs 0 0 ∙ ap (λ k. get_or bs k 0) (add-zero n)

    wide : n < length bs → 128 ≤ get_or bs n 0 → 192 ≤ get_or bs n 0
    wide lt w = let small = begun_small (drop n bs) g in let e = same in absurd (omega arith)

pub piece_utf8 : (bs : List ℕ) (n len : ℕ) → IsUtf8 bs → n ≤ length bs → len ≤ length (drop n bs) → Begun (drop n bs) → Begun (drop len (drop n bs)) → IsUtf8 (take len (drop n bs))
piece_utf8 bs n len u le fits g h = IsUtf8-take (drop n bs) len (IsUtf8-drop bs n u (boundary bs n le g)) (boundary (drop n bs) len fits h)

front_alone : (c : Class) (n : ℕ) (bs : List ℕ) → n ≤ length bs → IsFront c n bs → IsFront c n (take n bs)
front_alone c n bs le h =
    let whole : IsFront c n (take n bs ++ drop n bs) = subst (IsFront c n) (sym (take-append-drop n bs)) h in
    let len : length (take n bs) ≡ n = length-take-le n bs le in
    let alone : IsFront c n (take n bs ++ []) = (local_front c).stays n (take n bs) (drop n bs) [] (omega (arith, len)) whole in
    subst (IsFront c n) (append-nil (take n bs)) alone

abbrev Told_by : List ℕ → Token → ℕ → ℕ → Type 0
Told_by text t from len =
    IsUtf8 (take len (drop from text)) × (c : Class) × IsFront c (length (take len (drop from text))) (take len (drop from text)) × (kind c (take len (drop from text)) ≡ Some t.kind)

pub token_bytes : (text : List ℕ) (ts : List Token) → Lexes text ts → (i : ℕ) (t : Token) → slice_get ts i ≡ Some t
    → IsUtf8 (take (t.span.to - t.span.from) (drop t.span.from text))
    × (c : Class) × IsFront c (length (take (t.span.to - t.span.from) (drop t.span.from text))) (take (t.span.to - t.span.from) (drop t.span.from text))
    × (kind c (take (t.span.to - t.span.from) (drop t.span.from text)) ≡ Some t.kind)
token_bytes text ts l i t e =
    let f = found 0 text l.pieces l.covers i t (subst (λ (us : List Token). slice_get us i ≡ Some t) l.tokens e) in
    let from : f.place ≡ t.span.from = omega (arith, f.from_is) in
    let len : f.piece.len ≡ t.span.to - t.span.from = omega (arith, f.from_is, f.to_is) in
    let fits = front_le f.piece (drop f.place text) f.first in
    let some = first_some f.piece (drop f.place text) f.first in
    let le : f.place ≤ length text = omega (arith, some.1, length-drop f.place text) in
    let size : f.piece.len ≡ length (take f.piece.len (drop f.place text)) = sym (length-take-le f.piece.len (drop f.place text) fits) in
    subst (λ n. Told_by text t n (t.span.to - t.span.from)) from (subst (λ n. Told_by text t f.place n) len (
      piece_utf8 text f.place f.piece.len l.plain.utf8 le fits (inr (f.piece, f.first)) f.behind,
      f.piece.class,
      subst (λ n. IsFront f.piece.class n (take f.piece.len (drop f.place text))) size (front_alone f.piece.class f.piece.len (drop f.place text) fits f.first.front),
      f.kind_is,
    ))
