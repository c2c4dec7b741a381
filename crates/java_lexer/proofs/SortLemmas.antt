-- Which classes of pieces begin with a byte, and the class of a piece by its first bytes and its length.
use Rattle.std.proofs.Common.{◌≡◌, ◌≤◌, ◌<◌, ℕ, zero, suc, ◌+◌, Bool, true, false, cond, List, [], ◌∷◌, drop, ◌⊎◌, inl, inr, Option, Some, None, refl, sym, subst, ◌∙◌, arith}
use Rattle.std.specs.List.{prefix_len}
use Rattle.java_lexer.specs.declared.piece.Class.{Class}
use Rattle.java_lexer.specs.declared.piece.Class.TheVariants as class
use Rattle.java_lexer.specs.Bytes.{is_blank, is_start, is_digit, is_octal, is_hex, is_x, is_long, is_exponent, is_float, is_dot, is_slash, is_quote, is_double_quote, is_operator}
use Rattle.java_lexer.specs.Forms.{Nothing, One, Many, Or, Maybe}
use Rattle.java_lexer.specs.Pieces.{IsInteger, Exponent, Fraction, IsFloating, IsFront}
use Rattle.java_lexer.specs.Faults.{IsBadNumber, IsBadCharacter, IsBadText, IsOpenComment, IsBroken}
use Rattle.java_lexer.specs.Scan.{more, one_len, after_digits, fraction, exponent, floating}
use Rattle.java_lexer.proofs.FormLemmas.{Most, most_digits}
use Rattle.java_lexer.proofs.NumberLemmas.{most_floating}
use Rattle.java_lexer.proofs.LiteralLemmas.{pair_operator, triple_operator}
use Rattle.java_lexer.proofs.Apart.{start_blank, digit_blank, digit_start, nonzero_digit, octal_digit, zero_digit, long_digit, dot_long, float_long, exponent_long, x_digit, x_dot, x_float, x_exponent, dot_digit, exponent_digit, float_digit, operator_blank, operator_start, operator_digit, operator_double_quote, operator_quote, is_slash_byte, is_dot_byte, is_quote_byte, is_double_quote_byte}

pub data Sort : Type 0 where
  Blanks : Sort
  Words : Sort
  Digits : Sort
  Texts : Sort
  Characters : Sort
  Slashes : Sort
  Dots : Sort
  Others : Sort

abbrev pub sort_of : ℕ → Sort
sort_of b =
    cond (is_blank b) Blanks (cond (is_start b) Words (cond (is_digit b) Digits (cond (is_double_quote b) Texts (cond (is_quote b) Characters
    (cond (is_slash b) Slashes (cond (is_dot b) Dots Others))))))

abbrev pub Fits : Class → Sort → Type 0
Fits c Blanks = c ≡ class.Blank
Fits c Words = c ≡ class.Word
Fits c Digits = (c ≡ class.Integer) ⊎ (c ≡ class.Floating)
Fits c Texts = c ≡ class.Text
Fits c Characters = c ≡ class.Character
Fits c Slashes = (c ≡ class.LineComment) ⊎ (c ≡ class.BlockComment) ⊎ (c ≡ class.Operator)
Fits c Dots = (c ≡ class.Floating) ⊎ (c ≡ class.Operator)
Fits c Others = c ≡ class.Operator

pub blank_sort : (b : ℕ) → is_blank b ≡ true → sort_of b ≡ Blanks
blank_sort b e = rw e refl

pub word_sort : (b : ℕ) → is_start b ≡ true → sort_of b ≡ Words
word_sort b e = rw (start_blank b e, e) refl

pub digit_sort : (b : ℕ) → is_digit b ≡ true → sort_of b ≡ Digits
digit_sort b e = rw (digit_blank b e, digit_start b e, e) refl

pub text_sort : (b : ℕ) → is_double_quote b ≡ true → sort_of b ≡ Texts
text_sort b e = subst (λ x. sort_of x ≡ Texts) (sym (is_double_quote_byte b e)) refl

pub character_sort : (b : ℕ) → is_quote b ≡ true → sort_of b ≡ Characters
character_sort b e = subst (λ x. sort_of x ≡ Characters) (sym (is_quote_byte b e)) refl

pub slash_sort : (b : ℕ) → is_slash b ≡ true → sort_of b ≡ Slashes
slash_sort b e = subst (λ x. sort_of x ≡ Slashes) (sym (is_slash_byte b e)) refl

pub dot_sort : (b : ℕ) → is_dot b ≡ true → sort_of b ≡ Dots
dot_sort b e = subst (λ x. sort_of x ≡ Dots) (sym (is_dot_byte b e)) refl

operator_fits : (b : ℕ) → is_operator b ≡ true → Fits class.Operator (sort_of b)
operator_fits b e = rw (operator_blank b e, operator_start b e, operator_digit b e, operator_double_quote b e, operator_quote b e) (by_test (is_slash b) (is_dot b))
  where
    by_test : (t u : Bool) → Fits class.Operator (cond t Slashes (cond u Dots Others))
    by_test true u = inr (inr refl)
    by_test false true = inr refl
    by_test false false = refl

-- the fronts of a class begin so
pub fits : (c : Class) (n b : ℕ) (bs : List ℕ) → IsFront c n (b ∷ bs) → Fits c (sort_of b)
fits class.Blank zero b bs h = absurd h
fits class.Blank (suc n) b bs (e, h) = rw (blank_sort b e) refl
fits class.LineComment zero b bs h = absurd h
fits class.LineComment (suc n) b bs (e, h) = rw (slash_sort b e) (inl refl)
fits class.BlockComment zero b bs h = absurd h
fits class.BlockComment (suc n) b bs (e, h) = rw (slash_sort b e) (inr (inl refl))
fits class.Word zero b bs h = absurd h
fits class.Word (suc n) b bs (e, h) = rw (word_sort b e) refl
fits class.Integer zero b bs (inl h) = absurd h
fits class.Integer zero b bs (inr (inl h)) = absurd h
fits class.Integer zero b bs (inr (inr h)) = absurd h
fits class.Integer (suc n) b bs (inl (e, h)) = rw (digit_sort b (nonzero_digit b e)) (inl refl)
fits class.Integer (suc n) b bs (inr (inl (e, h))) = rw (digit_sort b (zero_digit b e)) (inl refl)
fits class.Integer (suc n) b bs (inr (inr (e, h))) = rw (digit_sort b (zero_digit b e)) (inl refl)
fits class.Floating zero b bs (inl h) = absurd h
fits class.Floating zero b bs (inr h) = absurd h
fits class.Floating (suc n) b bs (inl (e, h)) = rw (digit_sort b e) (inr refl)
fits class.Floating (suc n) b bs (inr (e, h)) = rw (dot_sort b e) (inl refl)
fits class.Character zero b bs h = absurd h
fits class.Character (suc n) b bs (e, h) = rw (character_sort b e) refl
fits class.Text zero b bs h = absurd h
fits class.Text (suc n) b bs (e, h) = rw (text_sort b e) refl
fits class.Operator zero b bs h = absurd h
fits class.Operator (suc zero) b bs h = operator_fits b h
fits class.Operator (suc (suc zero)) b [] h = absurd h
fits class.Operator (suc (suc zero)) b (c ∷ bs) h = operator_fits b (pair_operator b c h)
fits class.Operator (suc (suc (suc zero))) b [] h = absurd h
fits class.Operator (suc (suc (suc zero))) b (c ∷ []) h = absurd h
fits class.Operator (suc (suc (suc zero))) b (c ∷ d ∷ bs) h = operator_fits b (triple_operator b c d h)
fits class.Operator (suc (suc (suc (suc n)))) b bs h = absurd h

pub fits_at : (c : Class) (n b : ℕ) (bs : List ℕ) (s : Sort) → sort_of b ≡ s → IsFront c n (b ∷ bs) → Fits c s
fits_at c n b bs s e h = subst (Fits c) e (fits c n b bs h)

-- what is broken begins so
pub bad_number_sort : (b : ℕ) (bs : List ℕ) → IsBadNumber (b ∷ bs) → sort_of b ≡ Digits
bad_number_sort b [] (inl h, g) = absurd h
bad_number_sort b (x ∷ bs) (inl h, g) = digit_sort b (zero_digit b h.0)
bad_number_sort b bs (inr (zero, h), g) = absurd h
bad_number_sort b bs (inr (suc n, h), g) = digit_sort b (zero_digit b h.0)

pub open_comment_sort : (b : ℕ) (bs : List ℕ) → IsOpenComment (b ∷ bs) → sort_of b ≡ Slashes
open_comment_sort b [] h = absurd h
open_comment_sort b (x ∷ bs) h = slash_sort b h.0

abbrev pub Breaking : List ℕ → Sort → Type 0
Breaking bs Digits = IsBadNumber bs
Breaking bs Characters = IsBadCharacter bs
Breaking bs Texts = IsBadText bs
Breaking bs Slashes = IsOpenComment bs
Breaking bs _ = ⊥

pub breaking : (b : ℕ) (bs : List ℕ) (s : Sort) → sort_of b ≡ s → IsBroken (b ∷ bs) → Breaking (b ∷ bs) s
breaking b bs s e (inl h) = subst (Breaking (b ∷ bs)) (sym (bad_number_sort b bs h) ∙ e) h
breaking b bs s e (inr (inl h)) = subst (Breaking (b ∷ bs)) (sym (character_sort b h.0) ∙ e) h
breaking b bs s e (inr (inr (inl h))) = subst (Breaking (b ∷ bs)) (sym (text_sort b h.0) ∙ e) h
breaking b bs s e (inr (inr (inr h))) = subst (Breaking (b ∷ bs)) (sym (open_comment_sort b bs h) ∙ e) h

-- ---- integers are shorter than floating literals

many_more : (p q : ℕ → Bool) (K : ℕ → List ℕ → Type 0) → ((b : ℕ) → p b ≡ true → q b ≡ true) → (n : ℕ) (bs : List ℕ) → Many p K n bs → Many q K n bs
many_more p q K f zero bs h = h
many_more p q K f (suc n) [] h = h
many_more p q K f (suc n) (b ∷ bs) (inl h) = inl h
many_more p q K f (suc n) (b ∷ bs) (inr (e, h)) = inr (f b e, many_more p q K f n bs h)

exponent_begins : (b : ℕ) (bs : List ℕ) → is_exponent b ≡ false → exponent (b ∷ bs) ≡ None
exponent_begins b bs e = rw e refl

after_not_long : (cs : List ℕ) (j : ℕ) → after_digits cs ≡ Some j → one_len is_long cs ≡ 0
after_not_long [] j e = refl
after_not_long (b ∷ bs) j e = by_dot _ refl e
  where
    by_exponent : (t : Bool) → is_exponent b ≡ t → exponent (b ∷ bs) ≡ Some j → one_len is_long (b ∷ bs) ≡ 0
    by_exponent true f g = rw (exponent_long b f) refl
    by_exponent false f g = let none = exponent_begins b bs f in absurd (cc)

    by_float : (t : Bool) → is_float b ≡ t → cond t (Some 1) (exponent (b ∷ bs)) ≡ Some j → one_len is_long (b ∷ bs) ≡ 0
    by_float true f g = rw (float_long b f) refl
    by_float false f g = by_exponent _ refl g

    by_dot : (t : Bool) → is_dot b ≡ t → cond t (Some (fraction bs + 1)) (cond (is_float b) (Some 1) (exponent (b ∷ bs))) ≡ Some j → one_len is_long (b ∷ bs) ≡ 0
    by_dot true f g = rw (dot_long b f) refl
    by_dot false f g = by_float _ refl g

x_after : (b : ℕ) (bs : List ℕ) → is_x b ≡ true → after_digits (b ∷ bs) ≡ None
x_after b bs e = rw (x_dot b e, x_float b e) (exponent_begins b bs (x_exponent b e))

more_some : (n m : ℕ) (o : Option ℕ) → more n o ≡ Some m → (k : ℕ) × (o ≡ Some k)
more_some n m None e = absurd (cc)
more_some n m (Some k) e = (k, refl)

decimal_short : (bs : List ℕ) (m j : ℕ) → after_digits (drop (prefix_len is_digit bs) bs) ≡ Some j → Many is_digit (Maybe is_long Nothing) m bs → m ≤ prefix_len is_digit bs
decimal_short bs m j e h =
    let le = (most_digits is_digit is_long long_digit bs).1 m h in
    let none = after_not_long (drop (prefix_len is_digit bs) bs) j e in
    omega (arith, le, none)

integer_short : (b : ℕ) (bs : List ℕ) (m j : ℕ) → after_digits (drop (prefix_len is_digit bs) bs) ≡ Some j → IsInteger m (b ∷ bs) → m ≤ prefix_len is_digit bs + 1
integer_short b bs zero j e h = omega arith
integer_short b bs (suc m) j e (inl (t, h)) = let le = decimal_short bs m j e h in omega arith
integer_short b bs (suc m) j e (inr (inl (t, h))) = let le = decimal_short bs m j e (many_more is_octal is_digit (Maybe is_long Nothing) octal_digit m bs h) in omega arith
integer_short b [] (suc m) j e (inr (inr (t, h))) = absurd (nil m h)
  where
    nil : (m : ℕ) → One is_x (One is_hex (Many is_hex (Maybe is_long Nothing))) m [] → ⊥
    nil zero h = h
    nil (suc m) h = h
integer_short b (x ∷ bs) (suc zero) j e (inr (inr (t, h))) = omega arith
integer_short b (x ∷ bs) (suc (suc m)) j e (inr (inr (t, u))) =
    let f = x_digit x u.0 in
    let g : after_digits (x ∷ bs) ≡ Some j = rw f at e in
    let none = x_after x bs u.0 in
    absurd (cc)

digits_long : (n : ℕ) (bs : List ℕ) → Many is_digit (Or (One is_dot Fraction) (Or Exponent (One is_float Nothing))) n bs → prefix_len is_digit bs < n
digits_long zero bs (inl h) = absurd h
digits_long zero bs (inr (inl h)) = absurd h
digits_long zero bs (inr (inr h)) = absurd h
digits_long (suc n) [] h = omega arith
digits_long (suc n) (b ∷ bs) (inl (inl (t, h))) = rw (dot_digit b t) (omega arith)
digits_long (suc n) (b ∷ bs) (inl (inr (inl (t, h)))) = rw (exponent_digit b t) (omega arith)
digits_long (suc n) (b ∷ bs) (inl (inr (inr (t, h)))) = rw (float_digit b t) (omega arith)
digits_long (suc n) (b ∷ bs) (inr (t, h)) = let le = digits_long n bs h in rw t (omega arith)

floating_long : (b : ℕ) (bs : List ℕ) (n : ℕ) → is_digit b ≡ true → IsFloating n (b ∷ bs) → prefix_len is_digit bs + 1 < n
floating_long b bs zero e (inl h) = absurd h
floating_long b bs zero e (inr h) = absurd h
floating_long b bs (suc n) e (inl (t, h)) = let le = digits_long n bs h in omega arith
floating_long b bs (suc n) e (inr (t, h)) = let f = dot_digit b t in absurd (cc)

pub integer_below : (b : ℕ) (bs : List ℕ) (m n : ℕ) → is_digit b ≡ true → IsInteger m (b ∷ bs) → IsFloating n (b ∷ bs) → m < n
integer_below b bs m n e x y = by_some _ refl (most_floating b bs e)
  where
    by_some : (o : Option ℕ) → floating bs ≡ o → Most IsFloating (b ∷ bs) o → m < n
    by_some None f h = absurd (h n y)
    by_some (Some l) f h =
        let s = more_some (prefix_len is_digit bs + 1) l (after_digits (drop (prefix_len is_digit bs) bs)) f in
        let le = integer_short b bs m s.0 s.1 x in
        let lt = floating_long b bs n e y in
        omega (arith, le, lt)
