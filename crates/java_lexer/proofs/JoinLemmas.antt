-- Texts that are put together.
use Rattle.std.proofs.Common.{◌≡◌, ◌≤◌, ◌<◌, ℕ, zero, suc, ◌+◌, ◌-◌, Bool, true, false, ◌||◌, List, [], ◌∷◌, ◌++◌, length, take, drop, map, ◌⊎◌, inl, inr, Option, Some, None, refl, ap, sym, subst, ◌∙◌, arith, add_assoc, append_assoc, length-append, length-drop}
use Rattle.std.proofs.lemmas.Bool.Decides.{nat_tests}
use Rattle.std.proofs.lemmas.List.{drop-append-le, take-append-le, drop_all}
use Rattle.java_tree.specs.declared.tree.Token.{Token}
use Rattle.java_tree.specs.declared.tree.Kind.{Kind}
use Rattle.java_lexer.specs.declared.piece.Class.{Class}
use Rattle.java_lexer.specs.declared.piece.Class.TheVariants as class
use Rattle.java_lexer.specs.declared.piece.Piece.{Piece}
use Rattle.java_lexer.specs.Bytes.{is_line_end, in_line, is_blank, is_start, is_part, is_zero, is_slash, is_backslash, is_operator, is_pair, is_triple}
use Rattle.java_lexer.specs.Forms.{Nothing, Many}
use Rattle.java_lexer.specs.Pieces.{closes_here, Closes, IsInteger, IsFloating, IsFront}
use Rattle.java_lexer.specs.Lexing.{kind, Covers, with_token, tokens_of}
use Rattle.java_lexer.specs.Splice.{is_stop, Follows, last_class, moved}
use Rattle.java_lexer.proofs.FirstLemmas.{Line}
use Rattle.java_lexer.proofs.LexLemmas.{class_one, first_some}
use Rattle.java_lexer.proofs.TokenLemmas.{front_le}
use Rattle.java_lexer.proofs.Bounds.{local_front, BadOctal, local_bad_octal}
use Rattle.java_lexer.proofs.SeamLemmas.{Clear, Second, stay}
use Rattle.java_lexer.proofs.Shuts.{Ends, ends_snoc, ends_drop, Shuts, shuts_word, shuts_integer, shuts_bad_octal, shuts_floating, operator_ends, stop_part, stop_sign, stop_dot, stop_goes, stop_slash, stop_star, start_goes, start_slash, start_star, start_digit, part_x, floating_dot}

-- ---- what may come behind

nat_or : (n k : ℕ) → (n ≤ k) ⊎ (k < n)
nat_or zero k = inl (omega arith)
nat_or (suc n) zero = inr (omega arith)
nat_or (suc n) (suc k) = step (nat_or n k)
  where
    step : (n ≤ k) ⊎ (k < n) → (suc n ≤ suc k) ⊎ (suc k < suc n)
    step (inl le) = inl (omega arith)
    step (inr lt) = inr (omega arith)

-- what holds no byte b is no longer than what stands before it
pub not_past : (b : ℕ) (K : ℕ → List ℕ → Type 0) → Shuts b K → (us ys : List ℕ) (n : ℕ) → K n (us ++ b ∷ ys) → n ≤ length us
not_past b K s us ys n h = by_len (nat_or n (length us))
  where
    by_len : (n ≤ length us) ⊎ (length us < n) → n ≤ length us
    by_len (inl le) = le
    by_len (inr lt) =
        absurd (s.never n (us ++ b ∷ []) ys (ends_snoc us b) (omega (arith, length-append us (b ∷ []))) (subst (K n) (sym (append_assoc us (b ∷ []) ys)) h))

-- what holds no byte with which a list ends is shorter than the list
not_whole : (z : ℕ) (K : ℕ → List ℕ → Type 0) → Shuts z K → (us ys : List ℕ) (n : ℕ) → Ends z us → K n (us ++ ys) → n ≤ length us
not_whole z K s us ys n e h = by_len (nat_or n (length us))
  where
    by_len : (n ≤ length us) ⊎ (length us < n) → n ≤ length us
    by_len (inl le) = le
    by_len (inr lt) = absurd (s.never n us ys e (omega arith) h)

line_cut : (n : ℕ) (us xs ys : List ℕ) → length us ≤ n → Many in_line Nothing n (us ++ ys) → Many in_line Nothing (length us) (us ++ xs)
line_cut n [] [] ys le h = refl
line_cut n [] (x ∷ xs) ys le h = refl
line_cut zero (u ∷ us) xs ys le h = absurd (omega arith)
line_cut (suc n) (u ∷ us) xs ys le (inl e) = absurd (omega arith)
line_cut (suc n) (u ∷ us) xs ys le (inr (t, h)) = inr (t, line_cut n us xs ys (omega arith) h)

line_bound : (us xs ys : List ℕ) (b n : ℕ) → 0 < length us → is_slash b ≡ false → (Line (length us) (us ++ xs) → ⊥) → Line n (us ++ b ∷ ys) → n ≤ length us
line_bound us xs ys b n some e none h = by_len (nat_or n (length us)) us n some none h
  where
    cut : (us : List ℕ) (n : ℕ) → 0 < length us → (Line (length us) (us ++ xs) → ⊥) → length us < n → Line n (us ++ b ∷ ys) → ⊥
    cut [] n some none lt h = absurd (omega arith)
    cut (u ∷ us) zero some none lt h = h
    cut (u ∷ []) (suc zero) some none lt (t, h) = h
    cut (u ∷ []) (suc (suc n)) some none lt (t, h) = let f = h.0 in cc
    cut (u ∷ v ∷ us) (suc zero) some none lt (t, h) = h
    cut (u ∷ v ∷ us) (suc (suc n)) some none lt (t, h) = none (t, (h.0, line_cut n us xs (b ∷ ys) (omega arith) h.1))

    by_len : (n ≤ length us) ⊎ (length us < n) → (us : List ℕ) (n : ℕ) → 0 < length us → (Line (length us) (us ++ xs) → ⊥) → Line n (us ++ b ∷ ys) → n ≤ length us
    by_len o us n some none h = by_order (nat_or n (length us))
      where
        by_order : (n ≤ length us) ⊎ (length us < n) → n ≤ length us
        by_order (inl le) = le
        by_order (inr lt) = absurd (cut us n some none lt h)

blank_bound : (us ys : List ℕ) (n : ℕ) → 0 < length us → IsFront class.Blank n (us ++ ys) → n ≤ length us
blank_bound us ys zero some h = omega arith
blank_bound [] ys (suc n) some h = absurd (omega arith)
blank_bound (u ∷ us) ys (suc n) some (t, h) = omega arith

stop_second : (us ys : List ℕ) (b : ℕ) → is_stop b ≡ true → Second us (b ∷ ys)
stop_second [] ys b e = tt
stop_second (u ∷ []) ys b e = (stop_slash b e, stop_star b e, λ z. part_x b (stop_part b e))
stop_second (u ∷ v ∷ us) ys b e = tt

clear_stop : (us xs ys : List ℕ) (b : ℕ) → 0 < length us → is_stop b ≡ true → (in_line b ≡ true → Line (length us) (us ++ xs) → ⊥) → Clear us (b ∷ ys)
clear_stop us xs ys b some e none = record {
  blank = λ n h. blank_bound us (b ∷ ys) n some h;
  line = by_line _ refl;
  word = not_past b (IsFront class.Word) (shuts_word b part) us ys;
  integer = not_past b IsInteger (shuts_integer b part) us ys;
  floating = not_past b IsFloating (shuts_floating b part (stop_sign b e) (stop_dot b e)) us ys;
  operator = λ n h. operator_ends b n us ys (stop_goes b e) some h;
  octal = not_past b BadOctal (shuts_bad_octal b part) us ys;
  second = stop_second us ys b e;
}
  where
    part : is_part b ≡ false
    part = stop_part b e

    ends_line : (us : List ℕ) (n : ℕ) → 0 < length us → in_line b ≡ false → length us < n → Line n (us ++ b ∷ ys) → ⊥
    ends_line us n some f lt h = by_case us n some lt h
      where
        run : (us : List ℕ) (n : ℕ) → length us < n → Many in_line Nothing n (us ++ b ∷ ys) → ⊥
        run [] zero lt h = absurd (omega arith)
        run [] (suc n) lt (inl h) = absurd (omega arith)
        run [] (suc n) lt (inr (t, h)) = cc
        run (u ∷ us) zero lt h = absurd (omega arith)
        run (u ∷ us) (suc n) lt (inl h) = absurd (omega arith)
        run (u ∷ us) (suc n) lt (inr (t, h)) = run us n (omega arith) h

        by_case : (us : List ℕ) (n : ℕ) → 0 < length us → length us < n → Line n (us ++ b ∷ ys) → ⊥
        by_case [] n some lt h = absurd (omega arith)
        by_case (u ∷ us) zero some lt h = h
        by_case (u ∷ []) (suc zero) some lt (t, h) = h
        by_case (u ∷ []) (suc (suc n)) some lt (t, h) = let g = stop_slash b e in let k = h.0 in cc
        by_case (u ∷ v ∷ us) (suc zero) some lt (t, h) = h
        by_case (u ∷ v ∷ us) (suc (suc n)) some lt (t, h) = run us n (omega arith) h.1

    by_line : (t : Bool) → in_line b ≡ t → (n : ℕ) → Line n (us ++ b ∷ ys) → n ≤ length us
    by_line true f n h = line_bound us xs ys b n some (stop_slash b e) (none f) h
    by_line false f n h = by_order (nat_or n (length us))
      where
        by_order : (n ≤ length us) ⊎ (length us < n) → n ≤ length us
        by_order (inl le) = le
        by_order (inr lt) = absurd (ends_line us n some f lt h)

start_second : (us ys : List ℕ) (b z : ℕ) → is_start b ≡ true → Ends z us → is_part z ≡ false → Second us (b ∷ ys)
start_second [] ys b z e f g = tt
start_second (u ∷ []) ys b z e f g = (start_slash b e, start_star b e, λ t. absurd (no_zero (subst (λ x. is_zero x ≡ true) f t)))
  where
    zero_part : (z : ℕ) → is_part z ≡ false → is_zero z ≡ false
    zero_part z g = grind (arith, nat_tests)

    no_zero : is_zero z ≡ true → ⊥
    no_zero t = let k = zero_part z g in cc
start_second (u ∷ v ∷ us) ys b z e f g = tt

clear_start : (us xs ys : List ℕ) (b z : ℕ) → 0 < length us → is_start b ≡ true → Ends z us → is_part z ≡ false → (Line (length us) (us ++ xs) → ⊥) → (IsFloating (length us) (us ++ xs) → ⊥)
    → Clear us (b ∷ ys)
clear_start us xs ys b z some e f part no_line no_float = record {
  blank = λ n h. blank_bound us (b ∷ ys) n some h;
  line = λ n h. line_bound us xs ys b n some (start_slash b e) no_line h;
  word = λ n h. not_whole z (IsFront class.Word) (shuts_word z part) us (b ∷ ys) n f h;
  integer = λ n h. not_whole z IsInteger (shuts_integer z part) us (b ∷ ys) n f h;
  floating = λ n h. by_order n h (nat_or n (length us));
  operator = λ n h. operator_ends b n us ys (start_goes b e) some h;
  octal = λ n h. not_whole z BadOctal (shuts_bad_octal z part) us (b ∷ ys) n f h;
  second = start_second us ys b z e f part;
}
  where
    by_order : (n : ℕ) → IsFloating n (us ++ b ∷ ys) → (n ≤ length us) ⊎ (length us < n) → n ≤ length us
    by_order n h (inl le) = le
    by_order n h (inr lt) =
        let g = floating_dot z b part (start_digit b e) n us ys f lt h in absurd (no_float ((local_front class.Floating).stays (length us) us (b ∷ ys) xs (omega arith) g))

-- nothing comes behind
clear_end : (us : List ℕ) → Clear us []
clear_end us = record {
  blank = λ n h. fits class.Blank n h;
  line = λ n h. fits class.LineComment n h;
  word = λ n h. fits class.Word n h;
  integer = λ n h. fits class.Integer n h;
  floating = λ n h. fits class.Floating n h;
  operator = λ n h. fits class.Operator n h;
  octal = λ n h. let le = local_bad_octal.fits n (us ++ []) h in omega (arith, length-append us []);
  second = none us;
}
  where
    fits : (c : Class) (n : ℕ) → IsFront c n (us ++ []) → n ≤ length us
    fits c n h = let le = (local_front c).fits n (us ++ []) h in omega (arith, length-append us [])

    none : (us : List ℕ) → Second us []
    none [] = tt
    none (u ∷ []) = tt
    none (u ∷ v ∷ us) = tt

-- ---- lists of pieces

pub covers_le : (bs : List ℕ) (ps : List Piece) (rest : List ℕ) → Covers bs ps rest → length rest ≤ length bs
covers_le bs [] rest c = subst (λ (x : List ℕ). length rest ≤ length x) (sym c) (omega arith)
covers_le bs (p ∷ ps) rest (f, c) = let le = covers_le (drop p.len bs) ps rest c in omega (arith, length-drop p.len bs)

-- the first piece of a front lies in it
pub in_front : (us xs : List ℕ) (p : Piece) (ps : List Piece) → Covers (us ++ xs) (p ∷ ps) xs → p.len ≤ length us
in_front us xs p ps (f, c) =
    let le = covers_le (drop p.len (us ++ xs)) ps xs c in
    let fits = front_le p (us ++ xs) f in
    omega (arith, length-drop p.len (us ++ xs), length-append us xs)

pub some_front : (us xs : List ℕ) (p : Piece) (ps : List Piece) → Covers (us ++ xs) (p ∷ ps) xs → 0 < length us
some_front us xs p ps c = let le = in_front us xs p ps c in let some = first_some p (us ++ xs) c.0 in omega (arith, some.0)

pub later : (us xs : List ℕ) (p : Piece) (ps : List Piece) → Covers (us ++ xs) (p ∷ ps) xs → Covers (drop p.len us ++ xs) ps xs
later us xs p ps c = subst (λ (x : List ℕ). Covers x ps xs) (drop-append-le p.len us xs (in_front us xs p ps c)) c.1

-- a front that is one piece is as long as this
pub one_piece : (us xs : List ℕ) (p : Piece) → Covers (us ++ xs) (p ∷ []) xs → p.len ≡ length us
one_piece us xs p c =
    let e : drop p.len us ++ xs ≡ xs = later us xs p [] c in
    let le = in_front us xs p [] c in
    omega (arith, ap length e, length-append (drop p.len us) xs, length-drop p.len us)

pub more_pieces : (us xs : List ℕ) (p q : Piece) (ps : List Piece) → Covers (us ++ xs) (p ∷ q ∷ ps) xs → p.len < length us
more_pieces us xs p q ps c =
    let some = some_front (drop p.len us) xs q ps (later us xs p (q ∷ ps) c) in
    omega (arith, length-drop p.len us)

-- a front of a class that is as long as the whole front: it is one piece of this class
whole_front : (us xs : List ℕ) (p : Piece) (ps : List Piece) → Covers (us ++ xs) (p ∷ ps) xs → (c : Class) → IsFront c (length us) (us ++ xs) → last_class (p ∷ ps) ≡ c
whole_front us xs p (q ∷ ps) c k h = let lt = more_pieces us xs p q ps c in let le = c.0.longest k (length us) h in absurd (omega arith)
whole_front [] xs p [] c k h = let some = some_front [] xs p [] c in absurd (omega arith)
whole_front (u ∷ us) xs p [] c k h =
    let same = one_piece (u ∷ us) xs p c in
    class_one p.class k (length (u ∷ us)) u (us ++ xs) (subst (λ n. IsFront p.class n (u ∷ (us ++ xs))) same c.0.front) h

-- ---- the last byte of a front

ends_back : (k : ℕ) (us : List ℕ) (z : ℕ) → Ends z (drop k us) → Ends z us
ends_back zero us z e = e
ends_back (suc k) [] z e = absurd e
ends_back (suc k) (u ∷ []) z e = absurd (nil k e)
  where
    nil : (k : ℕ) → Ends z (drop k []) → ⊥
    nil zero e = e
    nil (suc k) e = e
ends_back (suc k) (u ∷ v ∷ us) z e = ends_back k (v ∷ us) z e

abbrev pub Gentle : Class → Type 0
Gentle c = (c ≡ class.Blank) ⊎ (c ≡ class.BlockComment) ⊎ (c ≡ class.Operator)

-- the last byte, no part of a word and no backslash
abbrev pub Tail : List ℕ → Type 0
Tail us = (z : ℕ) × Ends z us × (is_part z ≡ false) × (is_backslash z ≡ false)

blank_byte : (z : ℕ) → is_blank z ≡ true → (is_part z ≡ false) × (is_backslash z ≡ false)
blank_byte z e = (grind (arith, nat_tests), grind (arith, nat_tests))

operator_byte : (z : ℕ) → is_operator z ≡ true → (is_part z ≡ false) × (is_backslash z ≡ false)
operator_byte z e = (grind (arith, nat_tests), grind (arith, nat_tests))

pair_byte : (b z : ℕ) → is_pair b z ≡ true → (is_part z ≡ false) × (is_backslash z ≡ false)
pair_byte b z e = (grind (arith, nat_tests), grind (arith, nat_tests))

triple_byte : (b c z : ℕ) → is_triple b c z ≡ true → (is_part z ≡ false) × (is_backslash z ≡ false)
triple_byte b c z e = (grind (arith, nat_tests), grind (arith, nat_tests))

closes_ends : (n : ℕ) (us xs : List ℕ) → n ≡ length us → Closes n (us ++ xs) → Ends 47 us
closes_ends zero us xs e h = absurd h
closes_ends (suc n) [] xs e h = absurd (omega arith)
closes_ends (suc n) (u ∷ []) xs e (inl h) = absurd (omega arith)
closes_ends (suc n) (u ∷ v ∷ []) xs e (inl h) = slash_of u v (h.0)
  where
    slash_of : (u v : ℕ) → closes_here u (v ∷ []) ≡ true → v ≡ 47
    slash_of u v e = grind (arith, nat_tests)
closes_ends (suc n) (u ∷ v ∷ w ∷ us) xs e (inl h) = absurd (omega arith)
closes_ends (suc zero) (u ∷ us) xs e (inr h) = absurd h.1
closes_ends (suc (suc n)) (u ∷ []) xs e (inr h) = absurd (omega arith)
closes_ends (suc (suc n)) (u ∷ v ∷ us) xs e (inr h) = closes_ends (suc n) (v ∷ us) xs (omega arith) h.1

tail_of : (c : Class) (us xs : List ℕ) → Gentle c → IsFront c (length us) (us ++ xs) → Tail us
tail_of c us xs (inl e) h = blank_tail us (subst (λ (k : Class). IsFront k (length us) (us ++ xs)) e h)
  where
    blank_tail : (us : List ℕ) → IsFront class.Blank (length us) (us ++ xs) → Tail us
    blank_tail [] h = absurd h
    blank_tail (u ∷ []) h = (u, refl, (blank_byte u h.0).0, (blank_byte u h.0).1)
    blank_tail (u ∷ v ∷ us) h = absurd (omega (arith, h.1))
tail_of c us xs (inr (inl e)) h = block_tail us (subst (λ (k : Class). IsFront k (length us) (us ++ xs)) e h)
  where
    block_tail : (us : List ℕ) → IsFront class.BlockComment (length us) (us ++ xs) → Tail us
    block_tail [] h = absurd h
    block_tail (u ∷ []) h = absurd h.1
    block_tail (u ∷ v ∷ []) h = absurd h.1.1
    block_tail (u ∷ v ∷ w ∷ us) h = (47, closes_ends (length (w ∷ us)) (w ∷ us) xs refl h.1.1, refl, refl)
tail_of c us xs (inr (inr e)) h = operator_tail us (subst (λ (k : Class). IsFront k (length us) (us ++ xs)) e h)
  where
    operator_tail : (us : List ℕ) → IsFront class.Operator (length us) (us ++ xs) → Tail us
    operator_tail [] h = absurd h
    operator_tail (u ∷ []) h = (u, refl, (operator_byte u h).0, (operator_byte u h).1)
    operator_tail (u ∷ v ∷ []) h = (v, refl, (pair_byte u v h).0, (pair_byte u v h).1)
    operator_tail (u ∷ v ∷ w ∷ []) h = (w, refl, (triple_byte u v w h).0, (triple_byte u v w h).1)
    operator_tail (u ∷ v ∷ w ∷ x ∷ us) h = absurd h

pub tail_front : (ps : List Piece) (us xs : List ℕ) (p : Piece) → Covers (us ++ xs) (p ∷ ps) xs → Gentle (last_class (p ∷ ps)) → Tail us
tail_front [] us xs p c g = tail_of p.class us xs g (subst (λ n. IsFront p.class n (us ++ xs)) (one_piece us xs p c) c.0.front)
tail_front (q ∷ ps) us xs p c g =
    let t = tail_front ps (drop p.len us) xs q (later us xs p (q ∷ ps) c) g in
    (t.0, ends_back p.len us t.0 t.1, t.2, t.3)

-- ---- the pieces of a front stay

abbrev pub Quiet : Class → List ℕ → List ℕ → Type 0
Quiet last us [] = Unit {0}
Quiet last us (b ∷ ys) =
    ((is_stop b ≡ true) × (last ≡ class.LineComment → in_line b ≡ false)) ⊎ ((is_start b ≡ true) × Gentle last × Tail us)

line_blank : (b : ℕ) → is_line_end b ≡ true → is_stop b ≡ true
line_blank b e = grind (arith, nat_tests)

line_not : (b : ℕ) → is_line_end b ≡ true → in_line b ≡ false
line_not b e = rw e refl

either : (x y : Bool) → (x || y) ≡ true → (x ≡ true) ⊎ (y ≡ true)
either true y e = inl refl
either false y e = inr e

pub quiet_of : (last : Class) (us ys : List ℕ) → Follows last ys → (Gentle last → Tail us) → Quiet last us ys
quiet_of last us [] f t = tt
quiet_of class.LineComment us (b ∷ ys) f t = inl (line_blank b f, λ e. line_not b f)
quiet_of class.Blank us (b ∷ ys) f t = by_case (either (is_stop b) (is_start b) f)
  where
    by_case : (is_stop b ≡ true) ⊎ (is_start b ≡ true) → Quiet class.Blank us (b ∷ ys)
    by_case (inl e) = inl (e, λ x. absurd (cc))
    by_case (inr e) = inr (e, inl refl, t (inl refl))
quiet_of class.BlockComment us (b ∷ ys) f t = by_case (either (is_stop b) (is_start b) f)
  where
    by_case : (is_stop b ≡ true) ⊎ (is_start b ≡ true) → Quiet class.BlockComment us (b ∷ ys)
    by_case (inl e) = inl (e, λ x. absurd (cc))
    by_case (inr e) = inr (e, inr (inl refl), t (inr (inl refl)))
quiet_of class.Operator us (b ∷ ys) f t = by_case (either (is_stop b) (is_start b) f)
  where
    by_case : (is_stop b ≡ true) ⊎ (is_start b ≡ true) → Quiet class.Operator us (b ∷ ys)
    by_case (inl e) = inl (e, λ x. absurd (cc))
    by_case (inr e) = inr (e, inr (inr refl), t (inr (inr refl)))
quiet_of class.Word us (b ∷ ys) f t = inl (f, λ x. absurd (cc))
quiet_of class.Integer us (b ∷ ys) f t = inl (f, λ x. absurd (cc))
quiet_of class.Floating us (b ∷ ys) f t = inl (f, λ x. absurd (cc))
quiet_of class.Character us (b ∷ ys) f t = inl (f, λ x. absurd (cc))
quiet_of class.Text us (b ∷ ys) f t = inl (f, λ x. absurd (cc))

gentle_line : (c : Class) → Gentle c → c ≡ class.LineComment → ⊥
gentle_line c (inl e) f = cc
gentle_line c (inr (inl e)) f = cc
gentle_line c (inr (inr e)) f = cc

gentle_float : (c : Class) → Gentle c → c ≡ class.Floating → ⊥
gentle_float c (inl e) f = cc
gentle_float c (inr (inl e)) f = cc
gentle_float c (inr (inr e)) f = cc

clear_of : (us xs ys : List ℕ) (p : Piece) (ps : List Piece) → Covers (us ++ xs) (p ∷ ps) xs → Quiet (last_class (p ∷ ps)) us ys → Clear us ys
clear_of us xs [] p ps c q = clear_end us
clear_of us xs (b ∷ ys) p ps c (inl (e, line)) =
    clear_stop us xs ys b (some_front us xs p ps c) e (λ f h. let g = line (whole_front us xs p ps c class.LineComment h) in cc)
clear_of us xs (b ∷ ys) p ps c (inr (e, g, t)) =
    clear_start us xs ys b t.0 (some_front us xs p ps c) e t.1 t.2
    (λ h. gentle_line (last_class (p ∷ ps)) g (whole_front us xs p ps c class.LineComment h)) (λ h. gentle_float (last_class (p ∷ ps)) g (whole_front us xs p ps c class.Floating h))

quiet_later : (last : Class) (us ys : List ℕ) (k : ℕ) → k < length us → Quiet last us ys → Quiet last (drop k us) ys
quiet_later last us [] k lt q = tt
quiet_later last us (b ∷ ys) k lt (inl q) = inl q
quiet_later last us (b ∷ ys) k lt (inr (e, g, t)) = inr (e, g, (t.0, ends_drop k us t.0 lt t.1, t.2, t.3))

stays_front : (ps : List Piece) (us xs ys : List ℕ) (p : Piece) → Covers (us ++ xs) (p ∷ ps) xs → Quiet (last_class (p ∷ ps)) us ys → Covers (us ++ ys) (p ∷ ps) ys
stays_front [] us xs ys p c q =
    let le = in_front us xs p [] c in
    let same = one_piece us xs p c in (
      stay p us xs ys (some_front us xs p [] c) c.0 le (clear_of us xs ys p [] c q),
      drop-append-le p.len us ys le ∙ ap (λ (x : List ℕ). x ++ ys) (drop_all p.len us (omega arith)),
    )
stays_front (r ∷ ps) us xs ys p c q =
    let le = in_front us xs p (r ∷ ps) c in
    let lt = more_pieces us xs p r ps c in (
      stay p us xs ys (some_front us xs p (r ∷ ps) c) c.0 le (clear_of us xs ys p (r ∷ ps) c q),
      subst (λ (x : List ℕ). Covers x (r ∷ ps) ys) (sym (drop-append-le p.len us ys le))
          (stays_front ps (drop p.len us) xs ys r (later us xs p (r ∷ ps) c) (quiet_later (last_class (r ∷ ps)) us ys p.len lt q)),
    )

pub nil_front : (us xs : List ℕ) → us ++ xs ≡ xs → us ≡ []
nil_front [] xs e = refl
nil_front (u ∷ us) xs e = absurd (omega (arith, ap length e, length-append us xs))

-- The pieces of a front are those in front of any other text that may follow.
pub front_stays : (ps : List Piece) (us xs ys : List ℕ) → Covers (us ++ xs) ps xs → Follows (last_class ps) ys → Covers (us ++ ys) ps ys
front_stays [] us xs ys c f = ap (λ (x : List ℕ). x ++ ys) (nil_front us xs c)
front_stays (p ∷ ps) us xs ys c f = stays_front ps us xs ys p c (quiet_of (last_class (p ∷ ps)) us ys f (tail_front ps us xs p c))

pub covers_append : (bs : List ℕ) (ps : List Piece) (rest : List ℕ) (qs : List Piece) (last : List ℕ) → Covers bs ps rest → Covers rest qs last → Covers bs (ps ++ qs) last
covers_append bs [] rest qs last c d = subst (λ (x : List ℕ). Covers x qs last) (sym c) d
covers_append bs (p ∷ ps) rest qs last (f, c) d = (f, covers_append (drop p.len bs) ps rest qs last c d)

-- ---- tokens

-- the tokens of a front don't depend on what stands behind it
pub tokens_front : (at : ℕ) (ps : List Piece) (us xs ys : List ℕ) → Covers (us ++ xs) ps xs → tokens_of at (us ++ ys) ps ≡ tokens_of at (us ++ xs) ps
tokens_front at [] us xs ys c = refl
tokens_front at (p ∷ ps) us xs ys c =
    let le = in_front us xs p ps c in
    let text : take p.len (us ++ ys) ≡ take p.len (us ++ xs) = take-append-le p.len us ys le ∙ sym (take-append-le p.len us xs le) in
    let rest = tokens_front (at + p.len) ps (drop p.len us) xs ys (later us xs p ps c) in
    let a = drop-append-le p.len us ys le in
    let b = drop-append-le p.len us xs le in
    ap (λ (w : List ℕ). with_token (kind p.class w) at p.len (tokens_of (at + p.len) (drop p.len (us ++ ys)) ps)) text
    ∙ ap (λ (ts : List Token). with_token (kind p.class (take p.len (us ++ xs))) at p.len ts)
    (ap (λ (x : List ℕ). tokens_of (at + p.len) x ps) a ∙ rest ∙ ap (λ (x : List ℕ). tokens_of (at + p.len) x ps) (sym b))

with-append : (o : Option Kind) (at len : ℕ) (ts us : List Token) → with_token o at len (ts ++ us) ≡ with_token o at len ts ++ us
with-append None at len ts us = refl
with-append (Some k) at len ts us = refl

pub tokens_append : (at : ℕ) (bs : List ℕ) (ps : List Piece) (rest : List ℕ) (qs : List Piece) → Covers bs ps rest
    → tokens_of at bs (ps ++ qs) ≡ tokens_of at bs ps ++ tokens_of (at + (length bs - length rest)) rest qs
tokens_append at bs [] rest qs c =
    let zero_len : at + (length bs - length rest) ≡ at = omega (arith, ap length c) in
    ap (λ (x : List ℕ). tokens_of at x qs) c ∙ ap (λ n. tokens_of n rest qs) (sym zero_len)
tokens_append at bs (p ∷ ps) rest qs (f, c) =
    let le = covers_le (drop p.len bs) ps rest c in
    let fits = front_le p bs f in
    let place : at + p.len + (length (drop p.len bs) - length rest) ≡ at + (length bs - length rest) = omega (arith, length-drop p.len bs) in
    ap (λ (ts : List Token). with_token (kind p.class (take p.len bs)) at p.len ts)
    (tokens_append (at + p.len) (drop p.len bs) ps rest qs c ∙ ap (λ n. tokens_of (at + p.len) (drop p.len bs) ps ++ tokens_of n rest qs) place)
    ∙ with-append (kind p.class (take p.len bs)) at p.len (tokens_of (at + p.len) (drop p.len bs) ps) (tokens_of (at + (length bs - length rest)) rest qs)

moved_one : (from to d len : ℕ) (o : Option Kind) (ts us : List Token) → ts ≡ map (moved from to) us → with_token o (to + d) len ts ≡ map (moved from to) (with_token o (from + d) len us)
moved_one from to d len None ts us e = e
moved_one from to d len (Some k) ts us e =
    let a : to + d ≡ from + d + to - from = omega arith in
    let b : to + d + len ≡ from + d + len + to - from = omega arith in
    token_cons k (to + d) (from + d + to - from) (to + d + len) (from + d + len + to - from) ts (map (moved from to) us) a b e
  where
    token_cons : (k : Kind) (m n i j : ℕ) (ts us : List Token) → m ≡ n → i ≡ j → ts ≡ us
        → ◌≡◌ {A = List Token} ((record { kind = k; span = record { from = m; to = i } }) ∷ ts) ((record { kind = k; span = record { from = n; to = j } }) ∷ us)
    token_cons k m n i j ts us a b e = cc

-- the tokens of a text that begins elsewhere
pub tokens_moved : (from to d : ℕ) (bs : List ℕ) (ps : List Piece) → tokens_of (to + d) bs ps ≡ map (moved from to) (tokens_of (from + d) bs ps)
tokens_moved from to d bs [] = refl
tokens_moved from to d bs (p ∷ ps) =
    let rest = tokens_moved from to (d + p.len) (drop p.len bs) ps in
    let a = add_assoc to d p.len in
    let b = add_assoc from d p.len in
    moved_one from to d p.len (kind p.class (take p.len bs)) (tokens_of (to + d + p.len) (drop p.len bs) ps) (tokens_of (from + d + p.len) (drop p.len bs) ps)
    (ap (λ n. tokens_of n (drop p.len bs) ps) a ∙ rest ∙ ap (λ n. map (moved from to) (tokens_of n (drop p.len bs) ps)) (sym b))
