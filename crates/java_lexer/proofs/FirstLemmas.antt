-- The function finds the first piece, or what is broken there, and there is one first piece.
use Rattle.std.proofs.Common.{◌≡◌, ◌≤◌, ◌<◌, ℕ, zero, suc, ◌+◌, ◌==◌, Bool, true, false, cond, List, [], ◌∷◌, ◌⊎◌, inl, inr, Option, Some, None, Err, refl, ap, sym, subst, arith}
use Rattle.std.proofs.lemmas.Bool.Decides.{nat_tests}
use Rattle.std.specs.List.{prefix_len}
use Rattle.java_lexer.specs.declared.piece.Class.{Class}
use Rattle.java_lexer.specs.declared.piece.Class.TheVariants as class
use Rattle.java_lexer.specs.declared.piece.Rule.TheVariants as rule
use Rattle.java_lexer.specs.Bytes.{head, in_line, is_blank, is_start, is_part, is_digit, is_dot, is_slash, is_star, is_quote, is_double_quote, is_pair, is_triple}
use Rattle.java_lexer.specs.Forms.{Nothing, One, Many}
use Rattle.java_lexer.specs.Pieces.{Closes, IsInteger, IsFloating, Quoted, IsOperator, IsFront}
use Rattle.java_lexer.specs.Faults.{IsOpenComment, IsBroken, IsFirst, Told}
use Rattle.java_lexer.specs.Scan.{more, fraction, piece, piece_or, number_piece, quoted, character, closing, operator_len, operator, slash, point, other, first}
use Rattle.java_lexer.proofs.FormLemmas.{Most, most_same, most_nothing, most_run, one_nil, most_one}
use Rattle.java_lexer.proofs.NumberLemmas.{most_floating, most_point}
use Rattle.java_lexer.proofs.IntegerLemmas.{NumberTold, integer_told}
use Rattle.java_lexer.proofs.LiteralLemmas.{most_closing, most_quoted, most_character, CharEnd, some_len, most_operator}
use Rattle.java_lexer.proofs.SortLemmas.{Blanks, Words, Digits, Texts, Characters, Slashes, Dots, Others, sort_of, fits_at, breaking, blank_sort, word_sort, digit_sort, text_sort, character_sort, slash_sort, dot_sort, integer_below}
use Rattle.java_lexer.proofs.Apart.{star_slash, is_slash_byte, is_star_byte, is_dot_byte}

-- a longest front of one class is the first piece, where no other class has a longer one
first_of : (c : Class) (n : ℕ) (bs : List ℕ) → Most (IsFront c) bs (Some n) → ((d : Class) (m : ℕ) → IsFront d m bs → (d ≡ c) ⊎ (m ≤ n)) → (IsBroken bs → ⊥)
    → IsFirst (record { class = c; len = n }) bs
first_of c n bs most others whole = record { front = most.0; longest = λ d m h. by_class d m h (others d m h); whole = whole }
  where
    by_class : (d : Class) (m : ℕ) → IsFront d m bs → (d ≡ c) ⊎ (m ≤ n) → m ≤ n
    by_class d m h (inl e) = most.1 m (subst (λ (k : Class). IsFront k m bs) e h)
    by_class d m h (inr le) = le

-- ---- numbers

told_number : (b : ℕ) (bs : List ℕ) → is_digit b ≡ true → Told (b ∷ bs) (number_piece b bs)
told_number b bs e = by_floating _ (most_floating b bs e) _ (integer_told b bs e)
  where
    at : sort_of b ≡ Digits
    at = digit_sort b e

    others : (c : Class) (n : ℕ) → ((m : ℕ) → IsInteger m (b ∷ bs) → (class.Integer ≡ c) ⊎ (m ≤ n)) → ((m : ℕ) → IsFloating m (b ∷ bs) → (class.Floating ≡ c) ⊎ (m ≤ n))
        → (d : Class) (m : ℕ) → IsFront d m (b ∷ bs) → (d ≡ c) ⊎ (m ≤ n)
    others c n int float d m h = by_class d m h (fits_at d m b bs Digits at h)
      where
        by_class : (d : Class) (m : ℕ) → IsFront d m (b ∷ bs) → (d ≡ class.Integer) ⊎ (d ≡ class.Floating) → (d ≡ c) ⊎ (m ≤ n)
        by_class d m h (inl f) = subst (λ (k : Class). (k ≡ c) ⊎ (m ≤ n)) (sym f) (int m (subst (λ (k : Class). IsFront k m (b ∷ bs)) f h))
        by_class d m h (inr f) = subst (λ (k : Class). (k ≡ c) ⊎ (m ≤ n)) (sym f) (float m (subst (λ (k : Class). IsFront k m (b ∷ bs)) f h))

    by_integer : (o : Option ℕ) → NumberTold (b ∷ bs) o → ((n : ℕ) → IsFloating n (b ∷ bs) → ⊥) → Told (b ∷ bs) (piece_or class.Integer o (Err rule.Number))
    by_integer None t none = (t, none)
    by_integer (Some n) t none =
        first_of class.Integer n (b ∷ bs) t.0 (others class.Integer n (λ m h. inl refl) (λ m h. absurd (none m h))) (λ h. t.1 (breaking b bs Digits at h).0)

    by_floating : (o : Option ℕ) → Most IsFloating (b ∷ bs) o → (q : Option ℕ) → NumberTold (b ∷ bs) q
        → Told (b ∷ bs) (piece_or class.Floating o (piece_or class.Integer q (Err rule.Number)))
    by_floating None h q t = by_integer q t h
    by_floating (Some n) h q t =
        first_of class.Floating n (b ∷ bs) h
        (others class.Floating n (λ m x. let lt = integer_below b bs m n e x h.0 in inr (omega arith)) (λ m x. inl refl)) (λ x. (breaking b bs Digits at x).1 n h.0)

-- ---- literals

told_text : (b : ℕ) (bs : List ℕ) → is_double_quote b ≡ true → Told (b ∷ bs) (piece_or class.Text (more 1 (quoted bs)) (Err rule.Text))
told_text b bs e = by_some _ (most_one is_double_quote Quoted b bs (quoted bs) e (most_quoted bs))
  where
    at : sort_of b ≡ Texts
    at = text_sort b e

    by_some : (o : Option ℕ) → Most (One is_double_quote Quoted) (b ∷ bs) o → Told (b ∷ bs) (piece_or class.Text o (Err rule.Text))
    by_some None h = (e, h)
    by_some (Some n) h = first_of class.Text n (b ∷ bs) h (λ d m x. inl (fits_at d m b bs Texts at x)) (λ x. (breaking b bs Texts at x).1 n h.0)

told_character : (b : ℕ) (bs : List ℕ) → is_quote b ≡ true → Told (b ∷ bs) (piece_or class.Character (more 1 (character bs)) (Err rule.Character))
told_character b bs e = by_some _ (most_one is_quote CharEnd b bs (character bs) e (most_character bs))
  where
    at : sort_of b ≡ Characters
    at = character_sort b e

    by_some : (o : Option ℕ) → Most (One is_quote CharEnd) (b ∷ bs) o → Told (b ∷ bs) (piece_or class.Character o (Err rule.Character))
    by_some None h = (e, h)
    by_some (Some n) h = first_of class.Character n (b ∷ bs) h (λ d m x. inl (fits_at d m b bs Characters at x)) (λ x. (breaking b bs Characters at x).1 n h.0)

-- ---- operators

told_operator : (bs : List ℕ) → ((d : Class) (m : ℕ) → IsFront d m bs → d ≡ class.Operator) → (IsBroken bs → ⊥) → Told bs (operator bs)
told_operator bs others whole = by_len (operator_len bs) (most_operator bs)
  where
    by_test : (n : ℕ) (t : Bool) → (n == 0) ≡ t → Most IsOperator bs (cond t None (Some n)) → Told bs (cond t (Err rule.Stray) (piece class.Operator n))
    by_test n true e h = (λ d m x. h m (subst (λ (k : Class). IsFront k m bs) (others d m x) x), whole)
    by_test n false e h = first_of class.Operator n bs h (λ d m x. inl (others d m x)) whole

    by_len : (n : ℕ) → Most IsOperator bs (some_len n) → Told bs (cond (n == 0) (Err rule.Stray) (piece class.Operator n))
    by_len n h = by_test n _ refl h

-- ---- what begins with a slash

pub slash_pair : (b c n : ℕ) (bs : List ℕ) → is_slash b ≡ true → (is_slash c ≡ true) ⊎ (is_star c ≡ true) → IsOperator n (b ∷ c ∷ bs) → n ≤ 1
slash_pair b c n bs e f h = by_byte n (subst (λ x. IsOperator n (x ∷ c ∷ bs)) (is_slash_byte b e) h) f
  where
    at_slash : (n : ℕ) → IsOperator n (47 ∷ 47 ∷ bs) → n ≤ 1
    at_slash zero x = omega arith
    at_slash (suc zero) x = omega arith
    at_slash (suc (suc zero)) x = absurd (cc)
    at_slash (suc (suc (suc zero))) x = absurd (triple bs x)
      where
        triple : (bs : List ℕ) → IsOperator 3 (47 ∷ 47 ∷ bs) → ⊥
        triple [] x = x
        triple (d ∷ bs) x = cc
    at_slash (suc (suc (suc (suc n)))) x = absurd x

    at_star : (n : ℕ) → IsOperator n (47 ∷ 42 ∷ bs) → n ≤ 1
    at_star zero x = omega arith
    at_star (suc zero) x = omega arith
    at_star (suc (suc zero)) x = absurd (cc)
    at_star (suc (suc (suc zero))) x = absurd (triple bs x)
      where
        triple : (bs : List ℕ) → IsOperator 3 (47 ∷ 42 ∷ bs) → ⊥
        triple [] x = x
        triple (d ∷ bs) x = cc
    at_star (suc (suc (suc (suc n)))) x = absurd x

    by_byte : (n : ℕ) → IsOperator n (47 ∷ c ∷ bs) → (is_slash c ≡ true) ⊎ (is_star c ≡ true) → n ≤ 1
    by_byte n x (inl f) = at_slash n (subst (λ y. IsOperator n (47 ∷ y ∷ bs)) (is_slash_byte c f) x)
    by_byte n x (inr f) = at_star n (subst (λ y. IsOperator n (47 ∷ y ∷ bs)) (is_star_byte c f) x)

abbrev pub Line : ℕ → List ℕ → Type 0
Line = One is_slash (One is_slash (Many in_line Nothing))

abbrev pub Block : ℕ → List ℕ → Type 0
Block = One is_slash (One is_star Closes)

pub second : (p : ℕ → Bool) (K : ℕ → List ℕ → Type 0) (b c n : ℕ) (bs : List ℕ) → One is_slash (One p K) n (b ∷ c ∷ bs) → (p c ≡ true) × (1 < n)
second p K b c zero bs h = absurd h
second p K b c (suc zero) bs (t, h) = absurd h
second p K b c (suc (suc n)) bs (t, h) = (h.0, omega arith)

pub no_second : (p : ℕ → Bool) (K : ℕ → List ℕ → Type 0) (b n : ℕ) → One is_slash (One p K) n (b ∷ []) → ⊥
no_second p K b zero h = h
no_second p K b (suc n) (t, h) = one_nil p K n h

slash_others : (b : ℕ) (bs : List ℕ) → is_slash b ≡ true → (c : Class) (n : ℕ) → ((m : ℕ) → Line m (b ∷ bs) → (class.LineComment ≡ c) ⊎ (m ≤ n))
    → ((m : ℕ) → Block m (b ∷ bs) → (class.BlockComment ≡ c) ⊎ (m ≤ n)) → ((m : ℕ) → IsOperator m (b ∷ bs) → (class.Operator ≡ c) ⊎ (m ≤ n))
    → (d : Class) (m : ℕ) → IsFront d m (b ∷ bs) → (d ≡ c) ⊎ (m ≤ n)
slash_others b bs e c n line block op d m h = by_class d m h (fits_at d m b bs Slashes (slash_sort b e) h)
  where
    by_class : (d : Class) (m : ℕ) → IsFront d m (b ∷ bs) → (d ≡ class.LineComment) ⊎ (d ≡ class.BlockComment) ⊎ (d ≡ class.Operator) → (d ≡ c) ⊎ (m ≤ n)
    by_class d m h (inl f) = subst (λ (k : Class). (k ≡ c) ⊎ (m ≤ n)) (sym f) (line m (subst (λ (k : Class). IsFront k m (b ∷ bs)) f h))
    by_class d m h (inr (inl f)) = subst (λ (k : Class). (k ≡ c) ⊎ (m ≤ n)) (sym f) (block m (subst (λ (k : Class). IsFront k m (b ∷ bs)) f h))
    by_class d m h (inr (inr f)) = subst (λ (k : Class). (k ≡ c) ⊎ (m ≤ n)) (sym f) (op m (subst (λ (k : Class). IsFront k m (b ∷ bs)) f h))

-- no comment begins there, so an operator does
slash_operator : (b : ℕ) (bs : List ℕ) → is_slash b ≡ true → ((m : ℕ) → Line m (b ∷ bs) → ⊥) → ((m : ℕ) → Block m (b ∷ bs) → ⊥) → (IsOpenComment (b ∷ bs) → ⊥)
    → Told (b ∷ bs) (operator (b ∷ bs))
slash_operator b bs e line block open_comment =
    told_operator (b ∷ bs) (λ d m h. by_class d m h (fits_at d m b bs Slashes (slash_sort b e) h)) (λ h. open_comment (breaking b bs Slashes (slash_sort b e) h))
  where
    by_class : (d : Class) (m : ℕ) → IsFront d m (b ∷ bs) → (d ≡ class.LineComment) ⊎ (d ≡ class.BlockComment) ⊎ (d ≡ class.Operator) → d ≡ class.Operator
    by_class d m h (inl f) = absurd (line m (subst (λ (k : Class). IsFront k m (b ∷ bs)) f h))
    by_class d m h (inr (inl f)) = absurd (block m (subst (λ (k : Class). IsFront k m (b ∷ bs)) f h))
    by_class d m h (inr (inr f)) = f

told_line : (b c : ℕ) (bs : List ℕ) → is_slash b ≡ true → is_slash c ≡ true → Told (b ∷ c ∷ bs) (piece class.LineComment (prefix_len in_line bs + 2))
told_line b c bs e f =
    first_of class.LineComment (prefix_len in_line bs + 2) (b ∷ c ∷ bs)
    (most_same Line (b ∷ c ∷ bs) (Some (prefix_len in_line bs + 1 + 1)) (Some (prefix_len in_line bs + 2)) (let two : prefix_len in_line bs + 1 + 1 ≡ prefix_len in_line bs + 2 = omega arith in ap Some two)
    (most_one is_slash (One is_slash (Many in_line Nothing)) b (c ∷ bs) (Some (prefix_len in_line bs + 1)) e
    (most_one is_slash (Many in_line Nothing) c bs (Some (prefix_len in_line bs)) f (most_run in_line bs))))
    (slash_others b (c ∷ bs) e class.LineComment (prefix_len in_line bs + 2) (λ m h. inl refl)
    (λ m h. let s = (second is_star Closes b c m bs h).0 in let t = star_slash c s in absurd (cc)) (λ m h. let le = slash_pair b c m bs e (inl f) h in inr (omega arith)))
    (λ h. let o = breaking b (c ∷ bs) Slashes (slash_sort b e) h in let t = star_slash c o.1 in cc)

told_block : (b c : ℕ) (bs : List ℕ) → is_slash b ≡ true → is_star c ≡ true → Told (b ∷ c ∷ bs) (piece_or class.BlockComment (more 2 (closing bs)) (Err rule.Comment))
told_block b c bs e f = by_some (closing bs) (most_closing bs)
  where
    by_some : (o : Option ℕ) → Most Closes bs o → Told (b ∷ c ∷ bs) (piece_or class.BlockComment (more 2 o) (Err rule.Comment))
    by_some None h = (e, f, most_one is_slash (One is_star Closes) b (c ∷ bs) None e (most_one is_star Closes c bs None f h))
    by_some (Some k) h =
        let m : Most Block (b ∷ c ∷ bs) (Some (k + 2)) = most_same Block (b ∷ c ∷ bs) (Some (k + 1 + 1)) (Some (k + 2)) (let two : k + 1 + 1 ≡ k + 2 = omega arith in ap Some two)
        (most_one is_slash (One is_star Closes) b (c ∷ bs) (Some (k + 1)) e (most_one is_star Closes c bs (Some k) f h)) in
        first_of class.BlockComment (k + 2) (b ∷ c ∷ bs) m
        (slash_others b (c ∷ bs) e class.BlockComment (k + 2)
        (λ n x. let s = (second is_slash (Many in_line Nothing) b c n bs x).0 in let t = star_slash c f in absurd (cc))
        (λ n x. inl refl) (λ n x. let le = slash_pair b c n bs e (inr f) x in inr (omega arith)))
        (λ x. (breaking b (c ∷ bs) Slashes (slash_sort b e) x).2 (k + 2) m.0)

told_slash : (b : ℕ) (bs : List ℕ) → is_slash b ≡ true → Told (b ∷ bs) (slash (b ∷ bs))
told_slash b [] e = slash_operator b [] e (no_second is_slash (Many in_line Nothing) b) (no_second is_star Closes b) (λ h. h)
told_slash b (c ∷ bs) e = by_slash _ refl
  where
    by_star : (t : Bool) → is_star c ≡ t → is_slash c ≡ false → Told (b ∷ c ∷ bs) (cond t (piece_or class.BlockComment (more 2 (closing bs)) (Err rule.Comment)) (operator (b ∷ c ∷ bs)))
    by_star true f g = told_block b c bs e f
    by_star false f g =
        slash_operator b (c ∷ bs) e (λ m h. let s = (second is_slash (Many in_line Nothing) b c m bs h).0 in cc) (λ m h. let s = (second is_star Closes b c m bs h).0 in cc)
        (λ h. let s = h.1 in cc)

    by_slash : (t : Bool) → is_slash c ≡ t
        → Told (b ∷ c ∷ bs) (cond t (piece class.LineComment (prefix_len in_line bs + 2)) (cond (is_star c) (piece_or class.BlockComment (more 2 (closing bs)) (Err rule.Comment)) (operator (b ∷ c ∷ bs))))
    by_slash true f = told_line b c bs e f
    by_slash false f = by_star _ refl f

-- ---- what begins with a point

pub point_operator : (b n : ℕ) (bs : List ℕ) → is_dot b ≡ true → is_digit (head bs) ≡ true → IsOperator n (b ∷ bs) → n ≤ 1
point_operator b n bs e f h = by_byte n bs f (subst (λ x. IsOperator n (x ∷ bs)) (is_dot_byte b e) h)
  where
    equals : (c : ℕ) → is_digit c ≡ true → is_pair 46 c ≡ false
    equals c f = grind (arith, nat_tests)

    triple : (c d : ℕ) → is_digit c ≡ true → is_triple 46 c d ≡ false
    triple c d f = grind (arith, nat_tests)

    by_byte : (n : ℕ) (bs : List ℕ) → is_digit (head bs) ≡ true → IsOperator n (46 ∷ bs) → n ≤ 1
    by_byte zero bs f x = omega arith
    by_byte (suc zero) bs f x = omega arith
    by_byte (suc (suc zero)) [] f x = absurd x
    by_byte (suc (suc zero)) (c ∷ bs) f x = let g = equals c f in absurd (cc)
    by_byte (suc (suc (suc zero))) [] f x = absurd x
    by_byte (suc (suc (suc zero))) (c ∷ []) f x = absurd x
    by_byte (suc (suc (suc zero))) (c ∷ d ∷ bs) f x = let g = triple c d f in absurd (cc)
    by_byte (suc (suc (suc (suc n)))) bs f x = absurd x

told_point : (b : ℕ) (bs : List ℕ) → is_dot b ≡ true → Told (b ∷ bs) (point (b ∷ bs))
told_point b bs e = by_digit _ refl (most_point b bs e)
  where
    at : sort_of b ≡ Dots
    at = dot_sort b e

    by_digit : (t : Bool) → is_digit (head bs) ≡ t → Most IsFloating (b ∷ bs) (cond t (Some (fraction bs + 1)) None)
        → Told (b ∷ bs) (cond t (piece class.Floating (fraction bs + 1)) (operator (b ∷ bs)))
    by_digit true f h =
        first_of class.Floating (fraction bs + 1) (b ∷ bs) h (λ d m x. by_class d m x (fits_at d m b bs Dots at x)) (λ x. breaking b bs Dots at x)
      where
        by_class : (d : Class) (m : ℕ) → IsFront d m (b ∷ bs) → (d ≡ class.Floating) ⊎ (d ≡ class.Operator) → (d ≡ class.Floating) ⊎ (m ≤ fraction bs + 1)
        by_class d m x (inl g) = inl g
        by_class d m x (inr g) = let le = point_operator b m bs e f (subst (λ (k : Class). IsFront k m (b ∷ bs)) g x) in inr (omega arith)
    by_digit false f h = told_operator (b ∷ bs) (λ d m x. by_class d m x (fits_at d m b bs Dots at x)) (λ x. breaking b bs Dots at x)
      where
        by_class : (d : Class) (m : ℕ) → IsFront d m (b ∷ bs) → (d ≡ class.Floating) ⊎ (d ≡ class.Operator) → d ≡ class.Operator
        by_class d m x (inl g) = absurd (h m (subst (λ (k : Class). IsFront k m (b ∷ bs)) g x))
        by_class d m x (inr g) = g

-- ---- any text

told_other : (b : ℕ) (bs : List ℕ) → is_blank b ≡ false → is_start b ≡ false → is_digit b ≡ false → Told (b ∷ bs) (other b bs)
told_other b bs nb ns nd = by_text _ refl
  where
    by_dot : (t : Bool) → is_dot b ≡ t → is_double_quote b ≡ false → is_quote b ≡ false → is_slash b ≡ false → Told (b ∷ bs) (cond t (point (b ∷ bs)) (operator (b ∷ bs)))
    by_dot true e f g h = told_point b bs e
    by_dot false e f g h =
        let at : sort_of b ≡ Others = rw (nb, ns, nd, f, g, h, e) refl in
        told_operator (b ∷ bs) (λ d m x. fits_at d m b bs Others at x) (λ x. breaking b bs Others at x)

    by_slash : (t : Bool) → is_slash b ≡ t → is_double_quote b ≡ false → is_quote b ≡ false → Told (b ∷ bs) (cond t (slash (b ∷ bs)) (cond (is_dot b) (point (b ∷ bs)) (operator (b ∷ bs))))
    by_slash true e f g = told_slash b bs e
    by_slash false e f g = by_dot _ refl f g e

    by_quote : (t : Bool) → is_quote b ≡ t → is_double_quote b ≡ false
        → Told (b ∷ bs) (cond t (piece_or class.Character (more 1 (character bs)) (Err rule.Character)) (cond (is_slash b) (slash (b ∷ bs)) (cond (is_dot b) (point (b ∷ bs)) (operator (b ∷ bs)))))
    by_quote true e f = told_character b bs e
    by_quote false e f = by_slash _ refl f e

    by_text : (t : Bool) → is_double_quote b ≡ t
        → Told (b ∷ bs) (cond t (piece_or class.Text (more 1 (quoted bs)) (Err rule.Text)) (cond (is_quote b) (piece_or class.Character (more 1 (character bs)) (Err rule.Character))
        (cond (is_slash b) (slash (b ∷ bs)) (cond (is_dot b) (point (b ∷ bs)) (operator (b ∷ bs))))))
    by_text true e = told_text b bs e
    by_text false e = by_quote _ refl e

pub front_nil : (c : Class) (n : ℕ) → IsFront c n [] → ⊥
front_nil class.Blank n h = one_nil is_blank Nothing n h
front_nil class.LineComment n h = one_nil is_slash _ n h
front_nil class.BlockComment n h = one_nil is_slash _ n h
front_nil class.Word n h = one_nil is_start _ n h
front_nil class.Integer zero (inl h) = h
front_nil class.Integer zero (inr (inl h)) = h
front_nil class.Integer zero (inr (inr h)) = h
front_nil class.Integer (suc n) (inl h) = h
front_nil class.Integer (suc n) (inr (inl h)) = h
front_nil class.Integer (suc n) (inr (inr h)) = h
front_nil class.Floating zero (inl h) = h
front_nil class.Floating zero (inr h) = h
front_nil class.Floating (suc n) (inl h) = h
front_nil class.Floating (suc n) (inr h) = h
front_nil class.Character n h = one_nil is_quote _ n h
front_nil class.Text n h = one_nil is_double_quote Quoted n h
front_nil class.Operator n h = most_operator [] n h

pub broken_nil : IsBroken [] → ⊥
broken_nil (inl (inl h, g)) = h
broken_nil (inl (inr (zero, h), g)) = h
broken_nil (inl (inr (suc n, h), g)) = h
broken_nil (inr (inl (h, g))) = cc
broken_nil (inr (inr (inl (h, g)))) = cc
broken_nil (inr (inr (inr h))) = h

pub told_first : (bs : List ℕ) → Told bs (first bs)
told_first [] = (front_nil, broken_nil)
told_first (b ∷ bs) = by_blank _ refl
  where
    by_digit : (t : Bool) → is_digit b ≡ t → is_blank b ≡ false → is_start b ≡ false → Told (b ∷ bs) (cond t (number_piece b bs) (other b bs))
    by_digit true e f g = told_number b bs e
    by_digit false e f g = told_other b bs f g e

    by_start : (t : Bool) → is_start b ≡ t → is_blank b ≡ false → Told (b ∷ bs) (cond t (piece class.Word (prefix_len is_part bs + 1)) (cond (is_digit b) (number_piece b bs) (other b bs)))
    by_start true e f =
        first_of class.Word (prefix_len is_part bs + 1) (b ∷ bs) (most_one is_start (Many is_part Nothing) b bs (Some (prefix_len is_part bs)) e (most_run is_part bs))
        (λ d m x. inl (fits_at d m b bs Words (word_sort b e) x)) (λ x. breaking b bs Words (word_sort b e) x)
    by_start false e f = by_digit _ refl f e

    by_blank : (t : Bool) → is_blank b ≡ t
        → Told (b ∷ bs) (cond t (piece class.Blank 1) (cond (is_start b) (piece class.Word (prefix_len is_part bs + 1)) (cond (is_digit b) (number_piece b bs) (other b bs))))
    by_blank true e =
        first_of class.Blank 1 (b ∷ bs) (most_one is_blank Nothing b bs (Some 0) e (most_nothing bs))
        (λ d m x. inl (fits_at d m b bs Blanks (blank_sort b e) x)) (λ x. breaking b bs Blanks (blank_sort b e) x)
    by_blank false e = by_start _ refl e
