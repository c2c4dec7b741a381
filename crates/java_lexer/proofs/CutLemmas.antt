-- Texts that are cut where a piece ends, and put together.
use Rattle.std.proofs.Common.{◌≡◌, ◌≢◌, ◌≤◌, ◌<◌, ℕ, zero, suc, ◌+◌, ◌-◌, Bool, true, false, not, ◌&&◌, List, [], ◌∷◌, ◌++◌, length, take, drop, map, slice_get, ◌⊎◌, inl, inr, Option, Some, None, refl, ap, sym, subst, ◌∙◌, arith, add-zero, length-append, length-drop}
use Rattle.std.proofs.lemmas.Bool.Decides.{nat_tests}
use Rattle.std.proofs.lemmas.List.{append-nil, drop-drop, take-append-drop, drop_at, take_at, length-take-le}
use Rattle.std.proofs.lemmas.Str.{IsUtf8-take, IsUtf8-drop, IsUtf8-append}
use Rattle.std.specs.Str.{IsUtf8}
use Rattle.java_tree.specs.declared.tree.Token.{Token}
use Rattle.java_tree.specs.declared.tree.Kind.{Kind}
use Rattle.java_lexer.specs.declared.piece.Class.{Class}
use Rattle.java_lexer.specs.declared.piece.Class.TheVariants as class
use Rattle.java_lexer.specs.declared.piece.Piece.{Piece}
use Rattle.java_lexer.specs.Bytes.{head, is_blank, is_start, is_digit, is_dot, is_slash, is_quote, is_double_quote, is_operator, is_part, is_backslash}
use Rattle.java_lexer.specs.Encoding.{IsEscapeAt, IsPlain}
use Rattle.java_lexer.specs.Pieces.{IsFront}
use Rattle.java_lexer.specs.Faults.{IsFirst}
use Rattle.java_lexer.specs.Lexing.{kind, Covers, with_token, tokens_of, Lexes}
use Rattle.java_lexer.specs.Splice.{is_stop, Follows, last_class, IsCut, moved}
use Rattle.java_lexer.proofs.Apart.{nonzero_digit, zero_digit}
use Rattle.java_lexer.proofs.LiteralLemmas.{pair_operator, triple_operator}
use Rattle.java_lexer.proofs.LexLemmas.{Covers-snoc}
use Rattle.java_lexer.proofs.TokenLemmas.{Begun, begun, boundary, front_le}
use Rattle.java_lexer.proofs.Shuts.{Ends, stop_part}
use Rattle.java_lexer.proofs.JoinLemmas.{Quiet, quiet_of, tail_front, covers_le, front_stays, covers_append, tokens_front, tokens_append, tokens_moved, nil_front}

-- ---- pieces begin with no backslash

blank_plain : (b : ℕ) → is_blank b ≡ true → is_backslash b ≡ false
blank_plain b e = grind (arith, nat_tests)

start_plain : (b : ℕ) → is_start b ≡ true → is_backslash b ≡ false
start_plain b e = grind (arith, nat_tests)

digit_plain : (b : ℕ) → is_digit b ≡ true → is_backslash b ≡ false
digit_plain b e = grind (arith, nat_tests)

dot_plain : (b : ℕ) → is_dot b ≡ true → is_backslash b ≡ false
dot_plain b e = grind (arith, nat_tests)

slash_plain : (b : ℕ) → is_slash b ≡ true → is_backslash b ≡ false
slash_plain b e = grind (arith, nat_tests)

quote_plain : (b : ℕ) → is_quote b ≡ true → is_backslash b ≡ false
quote_plain b e = grind (arith, nat_tests)

double_quote_plain : (b : ℕ) → is_double_quote b ≡ true → is_backslash b ≡ false
double_quote_plain b e = grind (arith, nat_tests)

operator_plain : (b : ℕ) → is_operator b ≡ true → is_backslash b ≡ false
operator_plain b e = grind (arith, nat_tests)

front_plain : (c : Class) (n b : ℕ) (bs : List ℕ) → IsFront c n (b ∷ bs) → is_backslash b ≡ false
front_plain class.Blank zero b bs h = absurd h
front_plain class.Blank (suc n) b bs (e, h) = blank_plain b e
front_plain class.LineComment zero b bs h = absurd h
front_plain class.LineComment (suc n) b bs (e, h) = slash_plain b e
front_plain class.BlockComment zero b bs h = absurd h
front_plain class.BlockComment (suc n) b bs (e, h) = slash_plain b e
front_plain class.Word zero b bs h = absurd h
front_plain class.Word (suc n) b bs (e, h) = start_plain b e
front_plain class.Integer zero b bs (inl h) = absurd h
front_plain class.Integer zero b bs (inr (inl h)) = absurd h
front_plain class.Integer zero b bs (inr (inr h)) = absurd h
front_plain class.Integer (suc n) b bs (inl (e, h)) = digit_plain b (nonzero_digit b e)
front_plain class.Integer (suc n) b bs (inr (inl (e, h))) = digit_plain b (zero_digit b e)
front_plain class.Integer (suc n) b bs (inr (inr (e, h))) = digit_plain b (zero_digit b e)
front_plain class.Floating zero b bs (inl h) = absurd h
front_plain class.Floating zero b bs (inr h) = absurd h
front_plain class.Floating (suc n) b bs (inl (e, h)) = digit_plain b e
front_plain class.Floating (suc n) b bs (inr (e, h)) = dot_plain b e
front_plain class.Character zero b bs h = absurd h
front_plain class.Character (suc n) b bs (e, h) = quote_plain b e
front_plain class.Text zero b bs h = absurd h
front_plain class.Text (suc n) b bs (e, h) = double_quote_plain b e
front_plain class.Operator zero b bs h = absurd h
front_plain class.Operator (suc zero) b bs h = operator_plain b h
front_plain class.Operator (suc (suc zero)) b [] h = absurd h
front_plain class.Operator (suc (suc zero)) b (c ∷ bs) h = operator_plain b (pair_operator b c h)
front_plain class.Operator (suc (suc (suc zero))) b [] h = absurd h
front_plain class.Operator (suc (suc (suc zero))) b (c ∷ []) h = absurd h
front_plain class.Operator (suc (suc (suc zero))) b (c ∷ d ∷ bs) h = operator_plain b (triple_operator b c d h)
front_plain class.Operator (suc (suc (suc (suc n)))) b bs h = absurd h

pub plain_head : (bs : List ℕ) (ps : List Piece) → Covers bs ps [] → is_backslash (head bs) ≡ false
plain_head [] ps c = refl
plain_head (b ∷ bs) [] c = absurd (omega (arith, ap length c))
plain_head (b ∷ bs) (p ∷ ps) (f, c) = front_plain p.class p.len b bs f.front

-- ---- escapes

abbrev pub NoEscape : Bool → List ℕ → Type 0
NoEscape odd bs = (at : ℕ) → IsEscapeAt odd bs at → ⊥

-- what stands in front does not matter to a text that begins with no backslash
pub escape_any : (odd even : Bool) (bs : List ℕ) → is_backslash (head bs) ≡ false → NoEscape even bs → NoEscape odd bs
escape_any odd even [] e none at h = h
escape_any odd even (b ∷ bs) e none zero h = let t = h.1 in cc
escape_any odd even (b ∷ bs) e none (suc at) h =
    let x : IsEscapeAt (false && not odd) bs at = subst (λ t. IsEscapeAt (t && not odd) bs at) e h in
    none (suc at) (subst (λ t. IsEscapeAt (t && not even) bs at) (sym e) x)

-- no `\u` stands across the seam
abbrev Sealed : List ℕ → List ℕ → Type 0
Sealed us ys = (head ys ≢ 117) ⊎ ((z : ℕ) × Ends z us × (is_backslash z ≡ false))

escapes_join : (us : List ℕ) (odd : Bool) (xs ys : List ℕ) → NoEscape odd (us ++ xs) → NoEscape false ys → is_backslash (head ys) ≡ false → (0 < length us → Sealed us ys) → NoEscape odd (us ++ ys)
escapes_join [] odd xs ys none nys plain s at h = escape_any odd false ys plain nys at h
escapes_join (u ∷ us) odd xs ys none nys plain s zero h = by_second us none (s (omega arith)) h
  where
    by_second : (us : List ℕ) → NoEscape odd (u ∷ (us ++ xs)) → Sealed (u ∷ us) ys → IsEscapeAt odd (u ∷ (us ++ ys)) 0 → ⊥
    by_second [] none (inl e) h = e h.2
    by_second [] none (inr (z, e, f)) h = let t : is_backslash z ≡ true = subst (λ x. is_backslash x ≡ true) e h.1 in cc
    by_second (v ∷ us) none s h = none 0 h
escapes_join (u ∷ us) odd xs ys none nys plain s (suc at) h =
    escapes_join us (is_backslash u && not odd) xs ys (λ n x. none (suc n) x) nys plain (λ some. later us some (s (omega arith))) at h
  where
    later : (us : List ℕ) → 0 < length us → Sealed (u ∷ us) ys → Sealed us ys
    later us some (inl e) = inl e
    later [] some (inr (z, e, f)) = absurd (omega arith)
    later (v ∷ us) some (inr (z, e, f)) = inr (z, e, f)

escapes_back : (pre : List ℕ) (odd : Bool) (back : List ℕ) → NoEscape odd (pre ++ back) → is_backslash (head back) ≡ false → NoEscape false back
escapes_back [] odd back none plain at h = escape_any false odd back plain none at h
escapes_back (p ∷ pre) odd back none plain at h = escapes_back pre (is_backslash p && not odd) back (λ n x. none (suc n) x) plain at h

sealed_of : (last : Class) (us ys : List ℕ) → Quiet last us ys → Sealed us ys
sealed_of last us [] q = inl (λ e. absurd (omega arith))
sealed_of last us (b ∷ ys) (inl (e, f)) = inl (λ g. no_letter b e g)
  where
    no_letter : (b : ℕ) → is_stop b ≡ true → b ≡ 117 → ⊥
    no_letter b e g = let x = stop_part b e in let y : is_part b ≡ true = subst (λ z. is_part z ≡ true) (sym g) refl in cc
sealed_of last us (b ∷ ys) (inr (e, g, t)) = inr (t.0, t.1, t.3)

-- ---- UTF-8

cut_boundary : (front back : List ℕ) (ps : List Piece) → Covers back ps [] → (IsUtf8 (front ++ back)) → IsUtf8 front × IsUtf8 back
cut_boundary front back ps c u =
    let at : drop (length front) (front ++ back) ≡ back = drop_at front back (length front) refl in
    let edge = boundary (front ++ back) (length front) (omega (arith, length-append front back)) (subst Begun (sym at) (begun back ps c)) in
    (subst IsUtf8 (take_at front back (length front) refl) (IsUtf8-take (front ++ back) (length front) u edge), subst IsUtf8 at (IsUtf8-drop (front ++ back) (length front) u edge))

-- ---- cuts

pub cut_lexes : (front back : List ℕ) (last : Class) (rs ss : List Token) → IsCut front back last rs ss → Lexes (front ++ back) (rs ++ ss)
cut_lexes front back last rs ss c = record {
  plain = c.plain;
  pieces = c.ahead ++ c.behind;
  covers = covers_append (front ++ back) c.ahead back c.behind [] c.covers c.covers_behind;
  tokens =
      ap (λ (ts : List Token). ts ++ ss) c.before_is ∙ ap (λ (ts : List Token). tokens_of 0 (front ++ back) c.ahead ++ ts) (c.after_is ∙ ap (λ n. tokens_of n back c.behind) place)
      ∙ sym (tokens_append 0 (front ++ back) c.ahead back c.behind c.covers);
}
  where
    place : length front ≡ 0 + (length (front ++ back) - length back)
    place = omega (arith, length-append front back)

pub back_plain : (pre back : List ℕ) (last : Class) (rs ss : List Token) → IsCut pre back last rs ss → IsPlain back
back_plain pre back last rs ss c = record {
  utf8 = (cut_boundary pre back c.behind c.covers_behind c.plain.utf8).1;
  no_escape = escapes_back pre false back c.plain.no_escape (plain_head back c.behind c.covers_behind);
}

quiet_front : (front xs ys : List ℕ) (ps : List Piece) → Covers (front ++ xs) ps xs → Follows (last_class ps) ys → 0 < length front → Quiet (last_class ps) front ys
quiet_front front xs ys [] c f some = absurd (omega (arith, ap length (nil_front front xs c)))
quiet_front front xs ys (p ∷ ps) c f some = quiet_of (last_class (p ∷ ps)) front ys f (tail_front ps front xs p c)

-- the front of one text before the back of another
pub joined : (front xs pre back : List ℕ) (a b : Class) (rs ss ts us : List Token) → IsCut front xs a rs ss → IsCut pre back b ts us → Follows a back
    → IsCut front back a rs (map (moved (length pre) (length front)) us)
joined front xs pre back a b rs ss ts us c d f =
    let g : Follows (last_class c.ahead) back = subst (λ (k : Class). Follows k back) (sym c.last_is) f in
    let plain = back_plain pre back b ts us d in
    record {
      plain = record {
        utf8 = IsUtf8-append front back (cut_boundary front xs c.behind c.covers_behind c.plain.utf8).0 plain.utf8;
        no_escape = escapes_join front false xs back c.plain.no_escape plain.no_escape (plain_head back d.behind d.covers_behind)
            (λ some. sealed_of (last_class c.ahead) front back (quiet_front front xs back c.ahead c.covers g some));
      };
      ahead = c.ahead;
      behind = d.behind;
      covers = front_stays c.ahead front xs back c.covers g;
      covers_behind = d.covers_behind;
      last_is = c.last_is;
      before_is = c.before_is ∙ sym (tokens_front 0 c.ahead front xs back c.covers);
      after_is =
          ap (map (moved (length pre) (length front))) (d.after_is ∙ ap (λ n. tokens_of n back d.behind) (sym (add-zero (length pre))))
          ∙ sym (tokens_moved (length pre) (length front) 0 back d.behind) ∙ ap (λ n. tokens_of n back d.behind) (add-zero (length front));
    }

pub cut_start : (text : List ℕ) (ts : List Token) → Lexes text ts → IsCut [] text class.Blank [] ts
cut_start text ts l = record {
  plain = l.plain;
  ahead = [];
  behind = l.pieces;
  covers = refl;
  covers_behind = l.covers;
  last_is = refl;
  before_is = refl;
  after_is = l.tokens;
}

pub cut_end : (text : List ℕ) (ts : List Token) → Lexes text ts → (last : Class) × IsCut text [] last ts []
cut_end text ts l = (
  last_class l.pieces,
  record {
    plain = subst IsPlain (sym (append-nil text)) l.plain;
    ahead = l.pieces;
    behind = [];
    covers = subst (λ (x : List ℕ). Covers x l.pieces []) (sym (append-nil text)) l.covers;
    covers_behind = refl;
    last_is = refl;
    before_is = l.tokens ∙ ap (λ (x : List ℕ). tokens_of 0 x l.pieces) (sym (append-nil text));
    after_is = refl;
  },
)

-- ---- cuts at tokens

-- pieces up to a token, the token's piece, and the others
record Split (at : ℕ) (bs : List ℕ) (ps : List Piece) (i : ℕ) (t : Token) : Type 0 where
  ahead : List Piece
  piece : Piece
  behind : List Piece
  rest : List ℕ
  covers : Covers bs ahead rest
  first : IsFirst piece rest
  covers_behind : Covers (drop piece.len rest) behind []
  from_is : t.span.from + length rest ≡ at + length bs
  to_is : t.span.to ≡ t.span.from + piece.len
  kind_is : kind piece.class (take piece.len rest) ≡ Some t.kind
  before_is : take i (tokens_of at bs ps) ≡ tokens_of at bs ahead
  after_is : drop i (tokens_of at bs ps) ≡ t ∷ tokens_of t.span.to (drop piece.len rest) behind

split_later : (at : ℕ) (bs : List ℕ) (p : Piece) (ps : List Piece) (i : ℕ) (t : Token) → IsFirst p bs → kind p.class (take p.len bs) ≡ None
    → Split (at + p.len) (drop p.len bs) ps i t → Split at bs (p ∷ ps) i t
split_later at bs p ps i t f none s = record {
  ahead = p ∷ s.ahead;
  piece = s.piece;
  behind = s.behind;
  rest = s.rest;
  covers = (f, s.covers);
  first = s.first;
  covers_behind = s.covers_behind;
  from_is = let le = front_le p bs f in omega (arith, s.from_is, length-drop p.len bs);
  to_is = s.to_is;
  kind_is = s.kind_is;
  before_is = rw none s.before_is;
  after_is = rw none s.after_is;
}

split_next : (at : ℕ) (bs : List ℕ) (p : Piece) (ps : List Piece) (i : ℕ) (t : Token) (k : Kind) → IsFirst p bs → kind p.class (take p.len bs) ≡ Some k
    → Split (at + p.len) (drop p.len bs) ps i t → Split at bs (p ∷ ps) (suc i) t
split_next at bs p ps i t k f some s = record {
  ahead = p ∷ s.ahead;
  piece = s.piece;
  behind = s.behind;
  rest = s.rest;
  covers = (f, s.covers);
  first = s.first;
  covers_behind = s.covers_behind;
  from_is = let le = front_le p bs f in omega (arith, s.from_is, length-drop p.len bs);
  to_is = s.to_is;
  kind_is = s.kind_is;
  before_is = rw some (ap (λ (ts : List Token). (record { kind = k; span = record { from = at; to = at + p.len } }) ∷ ts) s.before_is);
  after_is = rw some s.after_is;
}

split_here : (at : ℕ) (bs : List ℕ) (p : Piece) (ps : List Piece) (t : Token) (k : Kind) → IsFirst p bs → Covers (drop p.len bs) ps [] → kind p.class (take p.len bs) ≡ Some k
    → ◌≡◌ {A = Token} (record { kind = k; span = record { from = at; to = at + p.len } }) t → Split at bs (p ∷ ps) 0 t
split_here at bs p ps t k f c some e = subst (Split at bs (p ∷ ps) 0) e (record {
  ahead = [];
  piece = p;
  behind = ps;
  rest = bs;
  covers = refl;
  first = f;
  covers_behind = c;
  from_is = refl;
  to_is = refl;
  kind_is = some;
  before_is = refl;
  after_is = rw some refl;
})

split : (at : ℕ) (bs : List ℕ) (ps : List Piece) → Covers bs ps [] → (i : ℕ) (t : Token) → slice_get (tokens_of at bs ps) i ≡ Some t → Split at bs ps i t
split at bs [] c i t e = absurd (cc)
split at bs (p ∷ ps) (f, c) i t e = by_kind (λ i e. split (at + p.len) (drop p.len bs) ps c i t e) (kind p.class (take p.len bs)) refl i e
  where
    by_kind : ((i : ℕ) → slice_get (tokens_of (at + p.len) (drop p.len bs) ps) i ≡ Some t → Split (at + p.len) (drop p.len bs) ps i t) → (o : Option Kind) → kind p.class (take p.len bs) ≡ o
        → (i : ℕ) → slice_get (with_token o at p.len (tokens_of (at + p.len) (drop p.len bs) ps)) i ≡ Some t → Split at bs (p ∷ ps) i t
    by_kind later None k i e = split_later at bs p ps i t f k (later i e)
    by_kind later (Some a) k (suc i) e = split_next at bs p ps i t a f k (later i e)
    by_kind later (Some a) k zero e = split_here at bs p ps t a f c k (cc)

-- the rest behind pieces
rest_is : (bs : List ℕ) (ps : List Piece) (rest : List ℕ) → Covers bs ps rest → rest ≡ drop (length bs - length rest) bs
rest_is bs [] rest c =
    let none : 0 ≡ length bs - length rest = omega (arith, ap length c) in sym c ∙ ap (λ n. drop n bs) none
rest_is bs (p ∷ ps) rest (f, c) =
    let le = covers_le (drop p.len bs) ps rest c in
    let fits = front_le p bs f in
    let sum : p.len + (length (drop p.len bs) - length rest) ≡ length bs - length rest = omega (arith, length-drop p.len bs) in
    rest_is (drop p.len bs) ps rest c ∙ drop-drop (length (drop p.len bs) - length rest) p.len bs ∙ ap (λ n. drop n bs) sum

split_of : (text : List ℕ) (ts : List Token) → (l : Lexes text ts) → (i : ℕ) (t : Token) → slice_get ts i ≡ Some t → Split 0 text l.pieces i t
split_of text ts l i t e = split 0 text l.pieces l.covers i t (subst (λ (us : List Token). slice_get us i ≡ Some t) l.tokens e)

split_rest : (text : List ℕ) (ps : List Piece) (i : ℕ) (t : Token) → (s : Split 0 text ps i t) → (s.rest ≡ drop t.span.from text) × (t.span.from ≤ length text)
split_rest text ps i t s =
    let n : length text - length s.rest ≡ t.span.from = omega (arith, s.from_is) in
    (rest_is text s.ahead s.rest s.covers ∙ ap (λ k. drop k text) n, omega (arith, s.from_is))

token_is : (t : Token) (from to : ℕ) → from ≡ t.span.from → to ≡ t.span.to → ◌≡◌ {A = Token} (record { kind = t.kind; span = record { from = from; to = to } }) t
token_is t from to e f =
    ap (λ n. record { kind = t.kind; span = record { from = n; to = to } }) e ∙ ap (λ n. record { kind = t.kind; span = record { from = t.span.from; to = n } }) f

-- a text is cut in front of a token
pub cut_at : (text : List ℕ) (ts : List Token) → Lexes text ts → (i : ℕ) (t : Token) → slice_get ts i ≡ Some t
    → (last : Class) × IsCut (take t.span.from text) (drop t.span.from text) last (take i ts) (drop i ts)
cut_at text ts l i t e =
    let s = split_of text ts l i t e in
    let r = split_rest text l.pieces i t s in
    let whole : take t.span.from text ++ drop t.span.from text ≡ text = take-append-drop t.span.from text in
    let len : length (take t.span.from text) ≡ t.span.from = length-take-le t.span.from text r.1 in
    let tokens : List Token = tokens_of 0 text l.pieces in (
      last_class s.ahead,
      record {
        plain = subst IsPlain (sym whole) l.plain;
        ahead = s.ahead;
        behind = s.piece ∷ s.behind;
        covers = subst (λ (x : List ℕ). Covers x s.ahead (drop t.span.from text)) (sym whole) (subst (λ (x : List ℕ). Covers text s.ahead x) r.0 s.covers);
        covers_behind = subst (λ (x : List ℕ). Covers x (s.piece ∷ s.behind) []) r.0 (s.first, s.covers_behind);
        last_is = refl;
        before_is = ap (take i) l.tokens ∙ s.before_is ∙ ap (λ (x : List ℕ). tokens_of 0 x s.ahead) (sym whole);
        after_is = ap (drop i) l.tokens ∙ s.after_is ∙ here s.piece s.behind t s.rest s.kind_is s.to_is ∙ ap (λ n. tokens_of n s.rest (s.piece ∷ s.behind)) (sym len)
            ∙ ap (λ (x : List ℕ). tokens_of (length (take t.span.from text)) x (s.piece ∷ s.behind)) r.0;
      },
    )
  where
    here : (p : Piece) (ps : List Piece) (t : Token) (rest : List ℕ) → kind p.class (take p.len rest) ≡ Some t.kind → t.span.to ≡ t.span.from + p.len
        → t ∷ tokens_of t.span.to (drop p.len rest) ps ≡ tokens_of t.span.from rest (p ∷ ps)
    here p ps t rest k e =
        rw k
        (ap (λ (x : Token). x ∷ tokens_of t.span.to (drop p.len rest) ps) (sym (token_is t t.span.from (t.span.from + p.len) refl (sym e)))
        ∙ ap (λ n. (record { kind = t.kind; span = record { from = t.span.from; to = t.span.from + p.len } }) ∷ tokens_of n (drop p.len rest) ps) e)

last_snoc : (ps : List Piece) (p : Piece) → last_class (ps ++ p ∷ []) ≡ p.class
last_snoc [] p = refl
last_snoc (q ∷ []) p = refl
last_snoc (q ∷ r ∷ ps) p = last_snoc (r ∷ ps) p

take_next : (ts : List Token) (i : ℕ) (t : Token) → slice_get ts i ≡ Some t → take (suc i) ts ≡ take i ts ++ t ∷ []
take_next [] i t e = absurd (cc)
take_next (x ∷ ts) zero t e = let same : x ≡ t = cc in ap (λ (y : Token). y ∷ []) same
take_next (x ∷ ts) (suc i) t e = ap (λ (us : List Token). x ∷ us) (take_next ts i t e)

drop_next : (ts us : List Token) (i : ℕ) (t : Token) → drop i ts ≡ t ∷ us → drop (suc i) ts ≡ us
drop_next [] us zero t e = absurd (cc)
drop_next [] us (suc i) t e = absurd (cc)
drop_next (x ∷ ts) us zero t e = cc
drop_next (x ∷ ts) us (suc i) t e = drop_next ts us i t e

-- and behind one
pub cut_behind : (text : List ℕ) (ts : List Token) → Lexes text ts → (i : ℕ) (t : Token) → slice_get ts i ≡ Some t
    → (last : Class) × (kind last (take (t.span.to - t.span.from) (drop t.span.from text)) ≡ Some t.kind)
    × IsCut (take t.span.to text) (drop t.span.to text) last (take (suc i) ts) (drop (suc i) ts)
cut_behind text ts l i t e =
    let s = split_of text ts l i t e in
    let r = split_rest text l.pieces i t s in
    let fits = front_le s.piece s.rest s.first in
    let whole : take t.span.to text ++ drop t.span.to text ≡ text = take-append-drop t.span.to text in
    let le : t.span.to ≤ length text = omega (arith, s.from_is, s.to_is, fits) in
    let len : length (take t.span.to text) ≡ t.span.to = length-take-le t.span.to text le in
    let back : drop s.piece.len s.rest ≡ drop t.span.to text =
    ap (drop s.piece.len) r.0 ∙ drop-drop s.piece.len t.span.from text ∙ ap (λ n. drop n text) (sym s.to_is) in
    let size : s.piece.len ≡ t.span.to - t.span.from = omega (arith, s.to_is) in (
      s.piece.class,
      kinds s.piece t s.rest size r.0 s.kind_is,
      record {
        plain = subst IsPlain (sym whole) l.plain;
        ahead = s.ahead ++ s.piece ∷ [];
        behind = s.behind;
        covers = subst (λ (x : List ℕ). Covers x (s.ahead ++ s.piece ∷ []) (drop t.span.to text)) (sym whole)
            (subst (λ (x : List ℕ). Covers text (s.ahead ++ s.piece ∷ []) x) back (Covers-snoc text s.ahead s.rest s.piece s.covers s.first));
        covers_behind = subst (λ (x : List ℕ). Covers x s.behind []) back s.covers_behind;
        last_is = last_snoc s.ahead s.piece;
        before_is = take_next ts i t e ∙ ap (λ (us : List Token). us ++ t ∷ []) (ap (take i) l.tokens ∙ s.before_is)
            ∙ snoc s.ahead s.piece s.rest s.covers s.kind_is (s.from_is) s.to_is ∙ ap (λ (x : List ℕ). tokens_of 0 x (s.ahead ++ s.piece ∷ [])) (sym whole);
        after_is = drop_next ts (tokens_of t.span.to (drop s.piece.len s.rest) s.behind) i t (ap (drop i) l.tokens ∙ s.after_is)
            ∙ ap (λ n. tokens_of n (drop s.piece.len s.rest) s.behind) (sym len) ∙ ap (λ (x : List ℕ). tokens_of (length (take t.span.to text)) x s.behind) back;
      },
    )
  where
    kinds : (p : Piece) (t : Token) (rest : List ℕ) → p.len ≡ t.span.to - t.span.from → rest ≡ drop t.span.from text → kind p.class (take p.len rest) ≡ Some t.kind
        → kind p.class (take (t.span.to - t.span.from) (drop t.span.from text)) ≡ Some t.kind
    kinds p t rest a b k = subst (λ n. kind p.class (take n (drop t.span.from text)) ≡ Some t.kind) a (subst (λ (x : List ℕ). kind p.class (take p.len x) ≡ Some t.kind) b k)

    snoc : (ps : List Piece) (p : Piece) (rest : List ℕ) → Covers text ps rest → kind p.class (take p.len rest) ≡ Some t.kind → t.span.from + length rest ≡ 0 + length text
        → t.span.to ≡ t.span.from + p.len → tokens_of 0 text ps ++ t ∷ [] ≡ tokens_of 0 text (ps ++ p ∷ [])
    snoc ps p rest c k a b =
        let place : 0 + (length text - length rest) ≡ t.span.from = omega (arith, a) in
        let one : with_token (kind p.class (take p.len rest)) (0 + (length text - length rest)) p.len [] ≡ t ∷ [] =
        ap (λ (o : Option Kind). with_token o (0 + (length text - length rest)) p.len []) k
        ∙ ap (λ (x : Token). x ∷ []) (token_is t (0 + (length text - length rest)) (0 + (length text - length rest) + p.len) place (omega (arith, b, place))) in
        ap (λ (us : List Token). tokens_of 0 text ps ++ us) (sym one) ∙ sym (tokens_append 0 text ps rest (p ∷ []) c)

-- new bytes between a front and a back
pub spliced : (front xs pre back new : List ℕ) (a b last : Class) (rs ss ts us ns : List Token) → IsCut front xs a rs ss → IsCut new [] last ns [] → IsCut pre back b ts us → Follows a (new ++ back)
    → Follows last back → Lexes (front ++ (new ++ back)) (rs ++ map (moved 0 (length front)) (ns ++ map (moved (length pre) (length new)) us))
spliced front xs pre back new a b last rs ss ts us ns c n d f g =
    let inner = joined new [] pre back last b ns [] ts us n d g in
    let start = cut_start (new ++ back) (ns ++ map (moved (length pre) (length new)) us) (cut_lexes new back last ns (map (moved (length pre) (length new)) us) inner) in
    cut_lexes front (new ++ back) a rs (map (moved 0 (length front)) (ns ++ map (moved (length pre) (length new)) us))
    (joined front xs [] (new ++ back) a class.Blank rs ss [] (ns ++ map (moved (length pre) (length new)) us) c start f)
