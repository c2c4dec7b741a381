-- The pieces of a text.
use Rattle.std.proofs.Common.{◌≡◌, ◌≤◌, ◌<◌, ℕ, zero, suc, ◌+◌, Bool, true, false, cond, List, [], ◌∷◌, ◌++◌, length, take, drop, Option, Some, None, Result, Ok, Err, ◌⊎◌, inl, inr, refl, sym, ap, subst, ◌∙◌, arith, add-zero, zero-add, add_assoc, length-drop}
use Rattle.java_tree.specs.declared.tree.Token.{Token}
use Rattle.java_tree.specs.declared.tree.Kind.{Kind}
use Rattle.java_lexer.specs.declared.piece.Class.{Class}
use Rattle.java_lexer.specs.declared.piece.Class.TheVariants as class
use Rattle.java_lexer.specs.declared.piece.Piece.{Piece}
use Rattle.java_lexer.specs.declared.piece.Rule.{Rule}
use Rattle.java_lexer.specs.declared.piece.Rule.TheVariants as rule
use Rattle.java_lexer.specs.declared.fault.LexFault.{LexFault}
use Rattle.java_lexer.specs.declared.fault.LexFault.TheVariants.{Bad, NoMemory}
use Rattle.java_lexer.specs.Bytes.{in_line, is_blank, is_start, is_digit, is_dot, is_slash, is_star, is_quote, is_double_quote}
use Rattle.java_lexer.specs.Forms.{Nothing, One, Many}
use Rattle.java_lexer.specs.Pieces.{Closes, IsFront, IsOperator}
use Rattle.java_lexer.specs.Encoding.{IsPlain}
use Rattle.java_lexer.specs.Faults.{IsBroken, IsStray, IsFirst, IsFault, number}
use Rattle.java_lexer.specs.Lexing.{kind, Covers, with_token, tokens_of, Lexes, Fails, Answers, IsLexed, IsRefused}
use Rattle.java_lexer.specs.Scan.{added}
use Rattle.java_lexer.proofs.SortLemmas.{Sort, Blanks, Words, Digits, Texts, Characters, Slashes, Dots, Others, sort_of, Fits, fits, bad_number_sort, open_comment_sort, character_sort, text_sort, integer_below}
use Rattle.java_lexer.proofs.FirstLemmas.{front_nil, second, no_second, slash_pair, point_operator, Line, Block}
use Rattle.java_lexer.proofs.Apart.{star_slash, dot_digit}
use Rattle.java_lexer.proofs.EncodingLemmas.{plain_not_odd, first_odd_one}

-- ---- the pieces so far

pub Covers-snoc : (bs : List ℕ) (ps : List Piece) (rest : List ℕ) (p : Piece) → Covers bs ps rest → IsFirst p rest → Covers bs (ps ++ p ∷ []) (drop p.len rest)
Covers-snoc bs [] rest p e f = (subst (IsFirst p) (sym e) f, ap (drop p.len) e)
Covers-snoc bs (q ∷ ps) rest p (g, c) f = (g, Covers-snoc (drop q.len bs) ps rest p c f)

abbrev pub size : List Piece → ℕ
size [] = 0
size (p ∷ ps) = p.len + size ps

added-with : (o q : Option Kind) (at len from to : ℕ) (ts : List Token) → with_token o at len (added ts q from to) ≡ added (with_token o at len ts) q from to
added-with None None at len from to ts = refl
added-with None (Some a) at len from to ts = refl
added-with (Some b) None at len from to ts = refl
added-with (Some b) (Some a) at len from to ts = refl

one-token : (o : Option Kind) (at len : ℕ) → with_token o at len [] ≡ added [] o at (at + len)
one-token None at len = refl
one-token (Some a) at len = refl

pub tokens_of-snoc : (at : ℕ) (bs : List ℕ) (ps : List Piece) (rest : List ℕ) (p : Piece) → Covers bs ps rest
    → tokens_of at bs (ps ++ p ∷ []) ≡ added (tokens_of at bs ps) (kind p.class (take p.len rest)) (at + size ps) (at + size ps + p.len)
tokens_of-snoc at bs [] rest p e = rw (add-zero, e) (one-token (kind p.class (take p.len rest)) at p.len)
tokens_of-snoc at bs (q ∷ ps) rest p (g, c) =
    ap (with_token (kind q.class (take q.len bs)) at q.len) (tokens_of-snoc (at + q.len) (drop q.len bs) ps rest p c)
    ∙ added-with (kind q.class (take q.len bs)) (kind p.class (take p.len rest)) at q.len (at + q.len + size ps) (at + q.len + size ps + p.len) (tokens_of (at + q.len) (drop q.len bs) ps)
    ∙ ap (λ n. added (with_token (kind q.class (take q.len bs)) at q.len (tokens_of (at + q.len) (drop q.len bs) ps)) (kind p.class (take p.len rest)) n (n + p.len)) (add_assoc at q.len (size ps))

pub record Read (text rest : List ℕ) (ts : List Token) (at : ℕ) : Type 0 where
  pieces : List Piece
  covers : Covers text pieces rest
  length_is : size pieces ≡ at
  tokens : ts ≡ tokens_of 0 text pieces
  pub place : at + length rest ≡ length text

pub read_none : (text : List ℕ) → Read text text [] 0
read_none text = record { pieces = []; covers = refl; length_is = refl; tokens = refl; place = omega arith }

size-snoc : (ps : List Piece) (p : Piece) → size (ps ++ p ∷ []) ≡ size ps + p.len
size-snoc [] p = omega arith
size-snoc (q ∷ ps) p = let e = size-snoc ps p in omega arith

pub read_step : (text rest : List ℕ) (ts : List Token) (at : ℕ) (p : Piece) → Read text rest ts at → IsFirst p rest → p.len ≤ length rest
    → Read text (drop p.len rest) (added ts (kind p.class (take p.len rest)) at (at + p.len)) (at + p.len)
read_step text rest ts at p r f le = record {
  pieces = r.pieces ++ p ∷ [];
  covers = Covers-snoc text r.pieces rest p r.covers f;
  length_is = omega (arith, size-snoc r.pieces p, r.length_is);
  tokens = rw (r.tokens, ← r.length_is) (sym (tokens_of-snoc 0 text r.pieces rest p r.covers ∙ rw zero-add refl));
  place = omega (arith, length-drop p.len rest, r.place);
}

pub read_end : (text rest : List ℕ) (ts : List Token) (at : ℕ) → IsPlain text → length rest ≡ 0 → Read text rest ts at → Lexes text ts
read_end text [] ts at plain e r = record { plain = plain; pieces = r.pieces; covers = r.covers; tokens = r.tokens }
read_end text (b ∷ bs) ts at plain e r = absurd (omega arith)

pub read_bad : (text rest : List ℕ) (ts : List Token) (at : ℕ) (r : Rule) → IsPlain text → 0 < length rest → IsFault r rest → Read text rest ts at → Fails text (number r) at
read_bad text rest ts at r plain some fault read =
    inr (r, refl, record { plain = plain; pieces = read.pieces; rest = rest; covers = read.covers; place = read.place; some = some; fault = fault })

-- ---- one first piece

digits_of : (t u v w x y z : Bool) → cond t Blanks (cond u Words (cond v Digits (cond w Texts (cond x Characters (cond y Slashes (cond z Dots Others)))))) ≡ Digits → v ≡ true
digits_of true u v w x y z h = absurd (cc)
digits_of false true v w x y z h = absurd (cc)
digits_of false false true w x y z h = refl
digits_of false false false true x y z h = absurd (cc)
digits_of false false false false true y z h = absurd (cc)
digits_of false false false false false true z h = absurd (cc)
digits_of false false false false false false true h = absurd (cc)
digits_of false false false false false false false h = absurd (cc)

digits_digit : (b : ℕ) → sort_of b ≡ Digits → is_digit b ≡ true
digits_digit b e = digits_of (is_blank b) (is_start b) (is_digit b) (is_double_quote b) (is_quote b) (is_slash b) (is_dot b) e

dots_of : (t u v w x y z : Bool) → cond t Blanks (cond u Words (cond v Digits (cond w Texts (cond x Characters (cond y Slashes (cond z Dots Others)))))) ≡ Dots → z ≡ true
dots_of true u v w x y z h = absurd (cc)
dots_of false true v w x y z h = absurd (cc)
dots_of false false true w x y z h = absurd (cc)
dots_of false false false true x y z h = absurd (cc)
dots_of false false false false true y z h = absurd (cc)
dots_of false false false false false true z h = absurd (cc)
dots_of false false false false false false true h = refl
dots_of false false false false false false false h = absurd (cc)

dots_dot : (b : ℕ) → sort_of b ≡ Dots → is_dot b ≡ true
dots_dot b e = dots_of (is_blank b) (is_start b) (is_digit b) (is_double_quote b) (is_quote b) (is_slash b) (is_dot b) e

-- the class of a front, by its length
pub class_one : (c d : Class) (n b : ℕ) (bs : List ℕ) → IsFront c n (b ∷ bs) → IsFront d n (b ∷ bs) → c ≡ d
class_one c d n b bs x y = by_sort (sort_of b) refl (fits c n b bs x) (fits d n b bs y)
  where
    front : (a k : Class) → a ≡ k → IsFront a n (b ∷ bs) → IsFront k n (b ∷ bs)
    front a k e h = subst (λ (j : Class). IsFront j n (b ∷ bs)) e h

    short : (bs : List ℕ) (e : is_dot b ≡ true) (m : ℕ) → IsFront class.Floating m (b ∷ bs) → IsFront class.Operator m (b ∷ bs) → ⊥
    short bs e zero (inl h) o = h
    short bs e zero (inr h) o = h
    short bs e (suc m) (inl (t, h)) o = let f = dot_digit b e in cc
    short bs e (suc zero) (inr (t, h)) o = h
    short [] e (suc (suc m)) (inr (t, h)) o = h
    short (x ∷ xs) e (suc (suc m)) (inr (t, u)) o = let le = point_operator b (suc (suc m)) (x ∷ xs) e u.0 o in absurd (omega arith)

    line_block : (bs : List ℕ) (m : ℕ) → Line m (b ∷ bs) → Block m (b ∷ bs) → ⊥
    line_block [] m h k = no_second is_slash (Many in_line Nothing) b m h
    line_block (x ∷ xs) m h k = let s = (second is_slash (Many in_line Nothing) b x m xs h).0 in let t = star_slash x (second is_star Closes b x m xs k).0 in cc

    line_operator : (bs : List ℕ) (m : ℕ) → is_slash b ≡ true → Line m (b ∷ bs) → IsOperator m (b ∷ bs) → ⊥
    line_operator [] m e h o = no_second is_slash (Many in_line Nothing) b m h
    line_operator (x ∷ xs) m e h o =
        let s = second is_slash (Many in_line Nothing) b x m xs h in let le = slash_pair b x m xs e (inl s.0) o in absurd (omega (arith, s.1))

    block_operator : (bs : List ℕ) (m : ℕ) → is_slash b ≡ true → Block m (b ∷ bs) → IsOperator m (b ∷ bs) → ⊥
    block_operator [] m e h o = no_second is_star Closes b m h
    block_operator (x ∷ xs) m e h o =
        let s = second is_star Closes b x m xs h in let le = slash_pair b x m xs e (inr s.0) o in absurd (omega (arith, s.1))

    begins_slash : (m : ℕ) (p : ℕ → Bool) (K : ℕ → List ℕ → Type 0) → One is_slash (One p K) m (b ∷ bs) → is_slash b ≡ true
    begins_slash zero p K h = absurd h
    begins_slash (suc m) p K h = h.0

    by_sort : (s : Sort) → sort_of b ≡ s → Fits c s → Fits d s → c ≡ d
    by_sort Blanks e f g = f ∙ sym g
    by_sort Words e f g = f ∙ sym g
    by_sort Texts e f g = f ∙ sym g
    by_sort Characters e f g = f ∙ sym g
    by_sort Others e f g = f ∙ sym g
    by_sort Digits e (inl f) (inl g) = f ∙ sym g
    by_sort Digits e (inr f) (inr g) = f ∙ sym g
    by_sort Digits e (inl f) (inr g) = let lt = integer_below b bs n n (digits_digit b e) (front c class.Integer f x) (front d class.Floating g y) in absurd (omega arith)
    by_sort Digits e (inr f) (inl g) = let lt = integer_below b bs n n (digits_digit b e) (front d class.Integer g y) (front c class.Floating f x) in absurd (omega arith)
    by_sort Dots e (inl f) (inl g) = f ∙ sym g
    by_sort Dots e (inr f) (inr g) = f ∙ sym g
    by_sort Dots e (inl f) (inr g) = absurd (short bs (dots_dot b e) n (front c class.Floating f x) (front d class.Operator g y))
    by_sort Dots e (inr f) (inl g) = absurd (short bs (dots_dot b e) n (front d class.Floating g y) (front c class.Operator f x))
    by_sort Slashes e (inl f) (inl g) = f ∙ sym g
    by_sort Slashes e (inr (inl f)) (inr (inl g)) = f ∙ sym g
    by_sort Slashes e (inr (inr f)) (inr (inr g)) = f ∙ sym g
    by_sort Slashes e (inl f) (inr (inl g)) = absurd (line_block bs n (front c class.LineComment f x) (front d class.BlockComment g y))
    by_sort Slashes e (inr (inl f)) (inl g) = absurd (line_block bs n (front d class.LineComment g y) (front c class.BlockComment f x))
    by_sort Slashes e (inl f) (inr (inr g)) =
        let l = front c class.LineComment f x in absurd (line_operator bs n (begins_slash n is_slash (Many in_line Nothing) l) l (front d class.Operator g y))
    by_sort Slashes e (inr (inr f)) (inl g) =
        let l = front d class.LineComment g y in absurd (line_operator bs n (begins_slash n is_slash (Many in_line Nothing) l) l (front c class.Operator f x))
    by_sort Slashes e (inr (inl f)) (inr (inr g)) =
        let l = front c class.BlockComment f x in absurd (block_operator bs n (begins_slash n is_star Closes l) l (front d class.Operator g y))
    by_sort Slashes e (inr (inr f)) (inr (inl g)) =
        let l = front d class.BlockComment g y in absurd (block_operator bs n (begins_slash n is_star Closes l) l (front c class.Operator f x))

pub first_one : (p q : Piece) (bs : List ℕ) → IsFirst p bs → IsFirst q bs → p ≡ q
first_one p q [] x y = absurd (front_nil p.class p.len x.front)
first_one p q (b ∷ bs) x y =
    let le = y.longest p.class p.len x.front in
    let ge = x.longest q.class q.len y.front in
    let same : p.len ≡ q.len = omega arith in
    piece_of p q (class_one p.class q.class q.len b bs (subst (λ n. IsFront p.class n (b ∷ bs)) same x.front) y.front) same
  where
    pair_eq : {c d : Class} {m n : ℕ} → c ≡ d → m ≡ n → ◌≡◌ {A = Class × ℕ} (c, m) (d, n)
    pair_eq a b = cc

    piece_of : (p q : Piece) → p.class ≡ q.class → p.len ≡ q.len → p ≡ q
    piece_of p q a b = ap (λ (x : Class × ℕ). record { class = x.0; len = x.1 }) (pair_eq a b)

front_positive : (c : Class) (n : ℕ) (bs : List ℕ) → IsFront c n bs → 0 < n
front_positive c zero bs h = absurd (none c bs h)
  where
    none : (c : Class) (bs : List ℕ) → IsFront c 0 bs → ⊥
    none class.Blank bs h = h
    none class.LineComment bs h = h
    none class.BlockComment bs h = h
    none class.Word bs h = h
    none class.Integer bs (inl h) = h
    none class.Integer bs (inr (inl h)) = h
    none class.Integer bs (inr (inr h)) = h
    none class.Floating bs (inl h) = h
    none class.Floating bs (inr h) = h
    none class.Character bs h = h
    none class.Text bs h = h
    none class.Operator bs h = h
front_positive c (suc n) bs h = omega arith

pub first_some : (p : Piece) (bs : List ℕ) → IsFirst p bs → (0 < p.len) × (0 < length bs)
first_some p [] x = absurd (front_nil p.class p.len x.front)
first_some p (b ∷ bs) x = (front_positive p.class p.len (b ∷ bs) x.front, omega arith)

-- ---- one way to cut a text

abbrev Stops : List ℕ → Type 0
Stops rest = (p : Piece) → IsFirst p rest → ⊥

stops_nil : Stops []
stops_nil p f = let some = first_some p [] f in absurd (omega arith)

stops_fault : (r : Rule) (rest : List ℕ) → IsFault r rest → Stops rest
stops_fault rule.Stray rest x p f = x.0 p.class p.len f.front
stops_fault rule.Number rest x p f = f.whole (inl x)
stops_fault rule.Character rest x p f = f.whole (inr (inl x))
stops_fault rule.Text rest x p f = f.whole (inr (inr (inl x)))
stops_fault rule.Comment rest x p f = f.whole (inr (inr (inr x)))

cover_one : (bs : List ℕ) (ps qs : List Piece) (r s : List ℕ) → Covers bs ps r → Covers bs qs s → Stops r → Stops s → (ps ≡ qs) × (r ≡ s)
cover_one bs [] [] r s x y m n = (refl, sym x ∙ y)
cover_one bs [] (q ∷ qs) r s x (f, y) m n = absurd (m q (subst (IsFirst q) x f))
cover_one bs (p ∷ ps) [] r s (f, x) y m n = absurd (n p (subst (IsFirst p) y f))
cover_one bs (p ∷ ps) (q ∷ qs) r s (f, x) (g, y) m n =
    let same = first_one p q bs f g in
    let w = cover_one (drop q.len bs) ps qs r s (subst (λ (z : Piece). Covers (drop z.len bs) ps r) same x) y m n in
    (cc, w.1)

-- what is broken, by the first byte
abbrev rule_at : Sort → Rule
rule_at Digits = rule.Number
rule_at Characters = rule.Character
rule_at Texts = rule.Text
rule_at Slashes = rule.Comment
rule_at _ = rule.Stray

broken_rule : (r : Rule) (b : ℕ) (bs : List ℕ) → IsFault r (b ∷ bs) → (r ≡ rule.Stray) ⊎ ((r ≡ rule_at (sort_of b)) × IsBroken (b ∷ bs))
broken_rule rule.Stray b bs h = inl refl
broken_rule rule.Number b bs h = inr (rw (bad_number_sort b bs h) refl, inl h)
broken_rule rule.Character b bs h = inr (rw (character_sort b h.0) refl, inr (inl h))
broken_rule rule.Text b bs h = inr (rw (text_sort b h.0) refl, inr (inr (inl h)))
broken_rule rule.Comment b bs h = inr (rw (open_comment_sort b bs h) refl, inr (inr (inr h)))

fault_one : (r q : Rule) (bs : List ℕ) → 0 < length bs → IsFault r bs → IsFault q bs → r ≡ q
fault_one r q [] some x y = absurd (omega arith)
fault_one r q (b ∷ bs) some x y = by_rules (broken_rule r b bs x) (broken_rule q b bs y)
  where
    as_stray : (k : Rule) → k ≡ rule.Stray → IsFault k (b ∷ bs) → IsStray (b ∷ bs)
    as_stray k e h = subst (λ (j : Rule). IsFault j (b ∷ bs)) e h

    by_rules : (r ≡ rule.Stray) ⊎ ((r ≡ rule_at (sort_of b)) × IsBroken (b ∷ bs)) → (q ≡ rule.Stray) ⊎ ((q ≡ rule_at (sort_of b)) × IsBroken (b ∷ bs)) → r ≡ q
    by_rules (inl e) (inl f) = e ∙ sym f
    by_rules (inl e) (inr f) = absurd ((as_stray r e x).1 f.1)
    by_rules (inr e) (inl f) = absurd ((as_stray q f y).1 e.1)
    by_rules (inr e) (inr f) = e.0 ∙ sym f.0

pub only_tokens : (text : List ℕ) (r : Result (List Token) LexFault) → Answers text r → (ts : List Token) → Lexes text ts → IsLexed r ts
only_tokens text (Ok us) a ts l =
    let w = cover_one text a.pieces l.pieces [] [] a.covers l.covers stops_nil stops_nil in
    a.tokens ∙ ap (tokens_of 0 text) w.0 ∙ sym l.tokens
only_tokens text (Err (Bad n at)) (inl (six, odd)) ts l = plain_not_odd text at l.plain odd
only_tokens text (Err (Bad n at)) (inr (r, is, a)) ts l =
    let w = cover_one text a.pieces l.pieces a.rest [] a.covers l.covers (stops_fault r a.rest a.fault) stops_nil in
    let some = a.some in
    absurd (omega (arith, ap length w.1))
only_tokens text (Err NoMemory) a ts l = tt

pub only_fault : (text : List ℕ) (r : Result (List Token) LexFault) → Answers text r → (n at : ℕ) → Fails text n at → IsRefused r n at
only_fault text (Ok us) a n at (inl (six, odd)) = plain_not_odd text at a.plain odd
only_fault text (Ok us) a n at (inr (r, is, l)) =
    let w = cover_one text a.pieces l.pieces [] l.rest a.covers l.covers stops_nil (stops_fault r l.rest l.fault) in
    let some = l.some in
    absurd (omega (arith, ap length w.1))
only_fault text (Err (Bad m here)) (inl (six, odd)) n at (inl (too, again)) = (six ∙ sym too, first_odd_one text here at odd again)
only_fault text (Err (Bad m here)) (inl (six, odd)) n at (inr (r, is, l)) = absurd (plain_not_odd text here l.plain odd)
only_fault text (Err (Bad m here)) (inr (r, is, a)) n at (inl (six, odd)) = absurd (plain_not_odd text at a.plain odd)
only_fault text (Err (Bad m here)) (inr (r, is, a)) n at (inr (q, is_q, l)) =
    let w = cover_one text a.pieces l.pieces a.rest l.rest a.covers l.covers (stops_fault r a.rest a.fault) (stops_fault q l.rest l.fault) in
    let same = fault_one r q l.rest l.some (subst (IsFault r) w.1 a.fault) l.fault in
    (is ∙ ap number same ∙ sym is_q, omega (arith, a.place, l.place, ap length w.1))
only_fault text (Err NoMemory) a n at l = tt
