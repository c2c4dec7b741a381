-- Words and spaces that are put between two texts.
use Rattle.std.proofs.Common.{◌≡◌, ◌≤◌, ◌<◌, ℕ, zero, suc, ◌+◌, Bool, true, false, cond, not, ◌&&◌, ◌||◌, List, [], ◌∷◌, ◌++◌, length, take, drop, map, ◌⊎◌, inl, inr, Option, Some, None, refl, ap, sym, subst, ◌∙◌, arith, add-zero, zero-add, append_assoc, length-append, length-drop}
use Rattle.std.proofs.lemmas.Bool.Decides.{nat_tests}
use Rattle.std.proofs.lemmas.List.{append-nil, drop_at, take_at, drop-append-le}
use Rattle.std.proofs.lemmas.Str.{IsUtf8-append, IsUtf8-from_ascii}
use Rattle.std.specs.Str.{IsAscii}
use Rattle.java_tree.specs.declared.tree.Token.{Token}
use Rattle.java_tree.specs.declared.tree.Kind.{Kind}
use Rattle.java_tree.specs.declared.tree.Kind.TheVariants as kinds
use Rattle.std.specs.List.{list_any}
use Rattle.java_lexer.specs.declared.piece.Class.{Class}
use Rattle.java_lexer.specs.declared.piece.Class.TheVariants as class
use Rattle.java_lexer.specs.declared.piece.Piece.{Piece}
use Rattle.java_lexer.specs.Bytes.{head, is_start, is_part, is_backslash, in_line, is_keyword, is_long}
use Rattle.java_lexer.specs.Forms.{Nothing, Many}
use Rattle.java_lexer.specs.Pieces.{IsFront}
use Rattle.java_lexer.specs.Faults.{IsFirst}
use Rattle.java_lexer.specs.Lexing.{kind, Covers, with_token, tokens_of}
use Rattle.java_lexer.specs.Splice.{is_stop, is_apart, Follows, last_class, IsCut, moved, IsWord, word_token, spaced, AreWords, with_words, IsLoose}
use Rattle.java_lexer.proofs.SortLemmas.{Words, fits_at, breaking, word_sort}
use Rattle.java_lexer.proofs.FirstLemmas.{told_first, Line}
use Rattle.java_lexer.proofs.Bounds.{local_front}
use Rattle.java_lexer.proofs.Shuts.{shuts_word}
use Rattle.java_lexer.proofs.JoinLemmas.{Gentle, not_past, tokens_moved, later, in_front, more_pieces, one_piece}
use Rattle.java_lexer.proofs.CutLemmas.{NoEscape, escape_any, back_plain, plain_head, joined}

-- ---- one word

word_bound : (w xs : List ℕ) → is_part (head xs) ≡ false → (n : ℕ) → IsFront class.Word n (w ++ xs) → n ≤ length w
word_bound w [] e n h = let le = (local_front class.Word).fits n (w ++ []) h in omega (arith, length-append w [])
word_bound w (x ∷ xs) e n h = not_past x (IsFront class.Word) (shuts_word x e) w xs n h

word_first : (w xs : List ℕ) → IsWord w → is_part (head xs) ≡ false → IsFirst (record { class = class.Word; len = length w }) (w ++ xs)
word_first [] xs h e = absurd h
word_first (b ∷ bs) xs h e = record {
  front = (local_front class.Word).stays (length (b ∷ bs)) (b ∷ bs) [] xs (omega arith) (subst (IsFront class.Word (length (b ∷ bs))) (sym (append-nil (b ∷ bs))) h);
  longest = λ d m x. word_bound (b ∷ bs) xs e m (subst (λ (k : Class). IsFront k m (b ∷ (bs ++ xs))) (fits_at d m b (bs ++ xs) Words (word_sort b h.0) x) x);
  whole = λ x. breaking b (bs ++ xs) Words (word_sort b h.0) x;
}

-- ---- bytes of words

abbrev Parts : List ℕ → Type 0
Parts [] = Unit {0}
Parts (b ∷ bs) = ((is_part b ≡ true) ⊎ (b ≡ 32)) × Parts bs

many_parts : (bs : List ℕ) → Many is_part Nothing (length bs) bs → Parts bs
many_parts [] h = tt
many_parts (b ∷ bs) (inl h) = absurd (omega arith)
many_parts (b ∷ bs) (inr (t, h)) = (inl t, many_parts bs h)

start_part : (b : ℕ) → is_start b ≡ true → is_part b ≡ true
start_part b e = grind (arith, nat_tests)

word_parts : (w : List ℕ) → IsWord w → Parts w
word_parts [] h = absurd h
word_parts (b ∷ bs) (t, h) = (inl (start_part b t), many_parts bs h)

part_small : (b : ℕ) → is_part b ≡ true → b < 128
part_small b e = grind (arith, nat_tests)

part_plain : (b : ℕ) → is_part b ≡ true → is_backslash b ≡ false
part_plain b e = grind (arith, nat_tests)

parts_ascii : (w : List ℕ) → Parts w → IsAscii w
parts_ascii [] h i = omega arith
parts_ascii (b ∷ bs) (inl t, h) zero = part_small b t
parts_ascii (b ∷ bs) (inr t, h) zero = omega arith
parts_ascii (b ∷ bs) (t, h) (suc i) = parts_ascii bs h i

part_no_backslash : (b : ℕ) → (is_part b ≡ true) ⊎ (b ≡ 32) → is_backslash b ≡ false
part_no_backslash b (inl t) = part_plain b t
part_no_backslash b (inr e) = subst (λ x. is_backslash x ≡ false) (sym e) refl

parts_escape : (w : List ℕ) (odd : Bool) (xs : List ℕ) → Parts w → is_backslash (head xs) ≡ false → NoEscape false xs → NoEscape odd (w ++ xs)
parts_escape [] odd xs h e none at x = escape_any odd false xs e none at x
parts_escape (b ∷ bs) odd xs (t, h) e none zero x = let f = part_no_backslash b t in let g = x.1 in cc
parts_escape (b ∷ bs) odd xs (t, h) e none (suc at) x = parts_escape bs (is_backslash b && not odd) xs h e none at x

-- ---- a text behind a word or a space

-- the back of a text by itself
rebased : (pre back : List ℕ) (b : Class) (ts us : List Token) → IsCut pre back b ts us → IsCut [] back class.Blank [] (map (moved (length pre) 0) us)
rebased pre back b ts us d = record {
  plain = back_plain pre back b ts us d;
  ahead = [];
  behind = d.behind;
  covers = refl;
  covers_behind = d.covers_behind;
  last_is = refl;
  before_is = refl;
  after_is =
      ap (map (moved (length pre) 0)) (d.after_is ∙ ap (λ n. tokens_of n back d.behind) (sym (add-zero (length pre))))
      ∙ sym (tokens_moved (length pre) 0 0 back d.behind);
}

put : (w pre back : List ℕ) (p : Piece) (b : Class) (ts us : List Token) → p.len ≡ length w → IsFirst p (w ++ back) → Parts w → IsCut pre back b ts us
    → IsCut [] (w ++ back) class.Blank [] (with_token (kind p.class w) 0 (length w) (map (moved (length pre) (length w)) us))
put w pre back p b ts us e f parts d =
    let plain = back_plain pre back b ts us d in
    let front : take p.len (w ++ back) ≡ w = ap (λ n. take n (w ++ back)) e ∙ take_at w back (length w) refl in
    let rest : drop p.len (w ++ back) ≡ back = ap (λ n. drop n (w ++ back)) e ∙ drop_at w back (length w) refl in
    record {
      plain = record {
        utf8 = IsUtf8-append w back (IsUtf8-from_ascii w (parts_ascii w parts)) plain.utf8;
        no_escape = parts_escape w false back parts (plain_head back d.behind d.covers_behind) plain.no_escape;
      };
      ahead = [];
      behind = p ∷ d.behind;
      covers = refl;
      covers_behind = (f, subst (λ (x : List ℕ). Covers x d.behind []) (sym rest) d.covers_behind);
      last_is = refl;
      before_is = refl;
      after_is =
          ap (λ (vs : List Token). with_token (kind p.class w) 0 (length w) (map (moved (length pre) (length w)) vs)) (d.after_is ∙ ap (λ n. tokens_of n back d.behind) (sym (add-zero (length pre))))
          ∙ ap (with_token (kind p.class w) 0 (length w)) (sym (tokens_moved (length pre) (length w) 0 back d.behind))
          ∙ ap (λ n. with_token (kind p.class w) 0 (length w) (tokens_of n back d.behind)) (add-zero (length w) ∙ sym e ∙ sym (zero-add p.len))
          ∙ ap (λ n. with_token (kind p.class w) 0 n (tokens_of (0 + p.len) back d.behind)) (sym e)
          ∙ ap (λ (x : List ℕ). with_token (kind p.class x) 0 p.len (tokens_of (0 + p.len) back d.behind)) (sym front)
          ∙ ap (λ (x : List ℕ). with_token (kind p.class (take p.len (w ++ back))) 0 p.len (tokens_of (0 + p.len) x d.behind)) (sym rest);
    }

put_word : (w pre back : List ℕ) (b : Class) (ts us : List Token) → IsWord w → is_part (head back) ≡ false → IsCut pre back b ts us
    → IsCut [] (w ++ back) class.Blank [] (word_token w ∷ map (moved (length pre) (length w)) us)
put_word w pre back b ts us h e d =
    subst (λ n. IsCut [] (w ++ back) class.Blank [] ((record { kind = (word_token w).kind; span = record { from = 0; to = n } }) ∷ map (moved (length pre) (length w)) us)) (zero-add (length w))
    (put w pre back (record { class = class.Word; len = length w }) b ts us refl (word_first w back h e) (word_parts w h) d)

pub put_space : (pre back : List ℕ) (b : Class) (ts us : List Token) → IsCut pre back b ts us → IsCut [] (32 ∷ back) class.Blank [] (map (moved (length pre) 1) us)
put_space pre back b ts us d = put (32 ∷ []) pre back (record { class = class.Blank; len = 1 }) b ts us refl (told_first (32 ∷ back)) (inr refl, tt) d

words_head : (ws : List (List ℕ)) (back : List ℕ) → is_part (head back) ≡ false → is_part (head (spaced ws ++ back)) ≡ false
words_head [] back e = e
words_head (w ∷ ws) back e = refl

put_words : (ws : List (List ℕ)) (pre back : List ℕ) (b : Class) (ts us : List Token) → AreWords ws → is_part (head back) ≡ false → IsCut pre back b ts us
    → IsCut [] (spaced ws ++ back) class.Blank [] (with_words (length pre) ws us)
put_words [] pre back b ts us h e d = rebased pre back b ts us d
put_words (w ∷ ws) pre back b ts us (h, hs) e d =
    let rest = put_words ws pre back b ts us hs e d in
    let word = put_word w [] (spaced ws ++ back) class.Blank [] (with_words (length pre) ws us) h (words_head ws back e) rest in
    let space = put_space [] (w ++ (spaced ws ++ back)) class.Blank [] (word_token w ∷ map (moved 0 (length w)) (with_words (length pre) ws us)) word in
    subst (λ (x : List ℕ). IsCut [] (32 ∷ x) class.Blank [] (with_words (length pre) (w ∷ ws) us)) (sym (append_assoc w (spaced ws) back)) space

-- ---- between a front and a back

follows_front : (a : Class) (w xs : List ℕ) → IsWord w → Follows a w → Follows a (w ++ xs)
follows_front a [] xs h f = absurd h
follows_front a (b ∷ bs) xs h f = f

pub word_between : (front xs pre back w : List ℕ) (a b : Class) (rs ss ts us : List Token) → IsCut front xs a rs ss → IsCut pre back b ts us → IsWord w → Follows a w → is_part (head back) ≡ false
    → IsCut front (w ++ back) a rs (map (moved 0 (length front)) (word_token w ∷ map (moved (length pre) (length w)) us))
word_between front xs pre back w a b rs ss ts us c d h f e =
    joined front xs [] (w ++ back) a class.Blank rs ss [] _ c (put_word w pre back b ts us h e d) (follows_front a w back h f)

pub space_between : (front xs pre back : List ℕ) (a b : Class) (rs ss ts us : List Token) → IsCut front xs a rs ss → IsCut pre back b ts us → is_apart a 32 ≡ true
    → IsCut front (32 ∷ back) a rs (map (moved 0 (length front)) (map (moved (length pre) 1) us))
space_between front xs pre back a b rs ss ts us c d f = joined front xs [] (32 ∷ back) a class.Blank rs ss [] _ c (put_space pre back b ts us d) f

pub words_between : (front xs pre back : List ℕ) (w : List ℕ) (ws : List (List ℕ)) (a b : Class) (rs ss ts us : List Token) → IsCut front xs a rs ss → IsCut pre back b ts us → AreWords (w ∷ ws)
    → is_apart a 32 ≡ true → is_part (head back) ≡ false → IsCut front (spaced (w ∷ ws) ++ back) a rs (map (moved 0 (length front)) (with_words (length pre) (w ∷ ws) us))
words_between front xs pre back w ws a b rs ss ts us c d h f e =
    joined front xs [] (spaced (w ∷ ws) ++ back) a class.Blank rs ss [] _ c (put_words (w ∷ ws) pre back b ts us h e d) f

-- ---- a line comment is followed by the end of its line

line_more : (us xs : List ℕ) (b : ℕ) → in_line b ≡ true → Line (length us) (us ++ b ∷ xs) → Line (suc (length us)) (us ++ b ∷ xs)
line_more [] xs b e h = absurd h
line_more (u ∷ []) xs b e h = absurd h.1
line_more (u ∷ v ∷ us) xs b e h = (h.0, (h.1.0, run us h.1.1))
  where
    run : (us : List ℕ) → Many in_line Nothing (length us) (us ++ b ∷ xs) → Many in_line Nothing (suc (length us)) (us ++ b ∷ xs)
    run [] h = inr (e, end xs)
      where
        end : (xs : List ℕ) → Many in_line Nothing 0 xs
        end xs = refl
    run (u ∷ us) (inl h) = absurd (omega arith)
    run (u ∷ us) (inr (t, h)) = inr (t, run us h)

line_last : (us xs : List ℕ) (b : ℕ) (p : Piece) (ps : List Piece) → in_line b ≡ true → Covers (us ++ b ∷ xs) (p ∷ ps) (b ∷ xs) → last_class (p ∷ ps) ≡ class.LineComment → ⊥
line_last us xs b p [] e c l =
    let same = one_piece us (b ∷ xs) p c in
    let front : Line (length us) (us ++ b ∷ xs) = subst (λ n. IsFront class.LineComment n (us ++ b ∷ xs)) same (subst (λ (k : Class). IsFront k p.len (us ++ b ∷ xs)) l c.0.front) in
    let most = c.0.longest class.LineComment (suc (length us)) (line_more us xs b e front) in
    absurd (omega arith)
line_last us xs b p (q ∷ ps) e c l = line_last (drop p.len us) xs b q ps e (later us (b ∷ xs) p (q ∷ ps) c) l

no_line : (front xs : List ℕ) (b : ℕ) (a : Class) (rs ss : List Token) → in_line b ≡ true → IsCut front (b ∷ xs) a rs ss → a ≡ class.LineComment → ⊥
no_line front xs b a rs ss e c l = by_pieces c.ahead c.covers (c.last_is ∙ l)
  where
    by_pieces : (ps : List Piece) → Covers (front ++ b ∷ xs) ps (b ∷ xs) → last_class ps ≡ class.LineComment → ⊥
    by_pieces [] c l = cc
    by_pieces (p ∷ ps) c l = line_last front xs b p ps e c l

-- where something else than the end of a line stood, a space or any other stop may stand
pub stop_follows : (front xs : List ℕ) (b z : ℕ) (a : Class) (rs ss : List Token) → IsCut front (b ∷ xs) a rs ss → in_line b ≡ true → is_stop z ≡ true → is_apart a z ≡ true
stop_follows front xs b z a rs ss c e f = by_class a (no_line front xs b a rs ss e c)
  where
    by_class : (k : Class) → (k ≡ class.LineComment → ⊥) → is_apart k z ≡ true
    by_class class.Blank n = rw f refl
    by_class class.LineComment n = absurd (n refl)
    by_class class.BlockComment n = rw f refl
    by_class class.Word n = f
    by_class class.Integer n = f
    by_class class.Floating n = f
    by_class class.Character n = f
    by_class class.Text n = f
    by_class class.Operator n = rw f refl

-- ---- where an identifier stood, another may stand, if no number and no literal in quotes is directly in front

start_line : (b : ℕ) → is_start b ≡ true → in_line b ≡ true
start_line b e = grind (arith, nat_tests)

loose_later : (at : ℕ) (t : Token) (ts : List Token) → IsLoose at (t ∷ ts) → IsLoose at ts
loose_later at t [] h = tt
loose_later at t (u ∷ ts) h = h

with_later : (o : Option Kind) (from len at : ℕ) (ts : List Token) → IsLoose at (with_token o from len ts) → IsLoose at ts
with_later None from len at ts h = h
with_later (Some a) from len at ts h = loose_later at (record { kind = a; span = record { from = from; to = from + len } }) ts h

gap_or_operator : (c : Class) (w : List ℕ) → (kind c w ≡ None) ⊎ (kind c w ≡ Some kinds.Op) → (c ≡ class.LineComment → ⊥) → Gentle c
gap_or_operator class.Blank w h n = inl refl
gap_or_operator class.LineComment w h n = absurd (n refl)
gap_or_operator class.BlockComment w h n = inr (inl refl)
gap_or_operator class.Operator w h n = inr (inr refl)
gap_or_operator class.Word w (inl h) n = absurd (cc)
gap_or_operator class.Word w (inr h) n = by_keyword (is_keyword w) h
  where
    by_keyword : (t : Bool) → ◌≡◌ {A = Option Kind} (Some (cond t kinds.Keyword kinds.Word)) (Some kinds.Op) → Gentle class.Word
    by_keyword true h = absurd (cc)
    by_keyword false h = absurd (cc)
gap_or_operator class.Integer w (inl h) n = absurd (cc)
gap_or_operator class.Integer w (inr h) n = by_long (list_any is_long w) h
  where
    by_long : (t : Bool) → ◌≡◌ {A = Option Kind} (Some (cond t kinds.Long kinds.Int)) (Some kinds.Op) → Gentle class.Integer
    by_long true h = absurd (cc)
    by_long false h = absurd (cc)
gap_or_operator class.Floating w (inl h) n = absurd (cc)
gap_or_operator class.Floating w (inr h) n = absurd (cc)
gap_or_operator class.Character w (inl h) n = absurd (cc)
gap_or_operator class.Character w (inr h) n = absurd (cc)
gap_or_operator class.Text w (inl h) n = absurd (cc)
gap_or_operator class.Text w (inr h) n = absurd (cc)

loose_one : (o : Option Kind) (from len at : ℕ) → from + len ≡ at → IsLoose at (with_token o from len []) → (o ≡ None) ⊎ (o ≡ Some kinds.Op)
loose_one None from len at e h = inl refl
loose_one (Some a) from len at e (inl h) = absurd (omega arith)
loose_one (Some a) from len at e (inr h) = inr (ap Some h)

loose_last : (at from : ℕ) (us xs : List ℕ) (p : Piece) (ps : List Piece) → Covers (us ++ xs) (p ∷ ps) xs → from + length us ≡ at → IsLoose at (tokens_of from (us ++ xs) (p ∷ ps))
    → (last_class (p ∷ ps) ≡ class.LineComment → ⊥) → Gentle (last_class (p ∷ ps))
loose_last at from us xs p [] c e h n =
    let same = one_piece us xs p c in
    gap_or_operator p.class (take p.len (us ++ xs)) (loose_one (kind p.class (take p.len (us ++ xs))) from p.len at (omega arith) h) n
loose_last at from us xs p (q ∷ ps) c e h n =
    let rest = with_later (kind p.class (take p.len (us ++ xs))) from p.len at (tokens_of (from + p.len) (drop p.len (us ++ xs)) (q ∷ ps)) h in
    let lt = more_pieces us xs p q ps c in
    let text = drop-append-le p.len us xs (in_front us xs p (q ∷ ps) c) in
    loose_last at (from + p.len) (drop p.len us) xs q ps (later us xs p (q ∷ ps) c) (omega (arith, length-drop p.len us))
    (subst (λ (x : List ℕ). IsLoose at (tokens_of (from + p.len) x (q ∷ ps))) text rest) n

later_true : (x y : Bool) → y ≡ true → (x || y) ≡ true
later_true true y e = refl
later_true false y e = e

gentle_apart : (c : Class) (z : ℕ) → Gentle c → is_start z ≡ true → is_apart c z ≡ true
gentle_apart c z (inl e) f = subst (λ (k : Class). is_apart k z ≡ true) (sym e) (later_true (is_stop z) (is_start z) f)
gentle_apart c z (inr (inl e)) f = subst (λ (k : Class). is_apart k z ≡ true) (sym e) (later_true (is_stop z) (is_start z) f)
gentle_apart c z (inr (inr e)) f = subst (λ (k : Class). is_apart k z ≡ true) (sym e) (later_true (is_stop z) (is_start z) f)

pub start_follows : (front xs : List ℕ) (b z : ℕ) (a : Class) (rs ss : List Token) → IsCut front (b ∷ xs) a rs ss → is_start b ≡ true → IsLoose (length front) rs → is_start z ≡ true → is_apart a z ≡ true
start_follows front xs b z a rs ss c e h f =
    subst (λ (k : Class). is_apart k z ≡ true) c.last_is
    (by_pieces c.ahead c.covers (subst (IsLoose (length front)) c.before_is h) (λ l. no_line front xs b a rs ss (start_line b e) c (sym c.last_is ∙ l)))
  where
    by_pieces : (ps : List Piece) → Covers (front ++ b ∷ xs) ps (b ∷ xs) → IsLoose (length front) (tokens_of 0 (front ++ b ∷ xs) ps) → (last_class ps ≡ class.LineComment → ⊥)
        → is_apart (last_class ps) z ≡ true
    by_pieces [] c h n = gentle_apart class.Blank z (inl refl) f
    by_pieces (p ∷ ps) c h n = gentle_apart (last_class (p ∷ ps)) z (loose_last (length front) 0 front (b ∷ xs) p ps c (omega arith) h n) f
