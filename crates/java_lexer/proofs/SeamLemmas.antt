-- Pieces that stay where other bytes come behind them.
use Rattle.std.proofs.Common.{◌≡◌, ◌≤◌, ◌<◌, ℕ, zero, suc, Bool, true, false, cond, List, [], ◌∷◌, ◌++◌, length, inl, inr, Option, Some, None, refl, ap, sym, subst, ◌∙◌, arith}
use Rattle.std.proofs.lemmas.Bool.Decides.{nat_tests}
use Rattle.java_lexer.specs.declared.piece.Class.{Class}
use Rattle.java_lexer.specs.declared.piece.Class.TheVariants as class
use Rattle.java_lexer.specs.declared.piece.Piece.{Piece}
use Rattle.java_lexer.specs.Bytes.{head, is_zero, is_octal, is_hex, is_x, is_slash, is_star, is_backslash, is_quote, is_double_quote, is_simple, is_up_to_three, is_in_char, is_first_of_two, is_first_of_three, is_continuation}
use Rattle.java_lexer.specs.Forms.{Nothing, One}
use Rattle.java_lexer.specs.Pieces.{Closes, Quoted, IsInteger, IsFloating, IsOperator, IsFront}
use Rattle.java_lexer.specs.Faults.{HasNo, IsBareHex, IsOpenComment, IsBroken, IsFirst}
use Rattle.java_lexer.specs.Scan.{closing, quoted, character}
use Rattle.java_lexer.proofs.FormLemmas.{Most}
use Rattle.java_lexer.proofs.LiteralLemmas.{CharEnd, most_closing, most_quoted, most_character}
use Rattle.java_lexer.proofs.FirstLemmas.{Block}
use Rattle.java_lexer.proofs.LexLemmas.{first_some}
use Rattle.java_lexer.proofs.Bounds.{local_front, BadOctal, local_bad_octal}
use Rattle.java_lexer.proofs.Apart.{double_quote_text, double_quote_backslash, text_backslash, octal_quote, char_backslash}

-- ---- lengths that are one

closes_one : (n m : ℕ) (bs : List ℕ) → Closes n bs → Closes m bs → n ≡ m
closes_one zero m bs x y = absurd x
closes_one (suc n) zero bs x y = absurd y
closes_one (suc n) (suc m) [] x y = absurd x
closes_one (suc n) (suc m) (b ∷ bs) (inl x) (inl y) = omega arith
closes_one (suc n) (suc m) (b ∷ bs) (inl x) (inr y) = absurd (cc)
closes_one (suc n) (suc m) (b ∷ bs) (inr x) (inl y) = absurd (cc)
closes_one (suc n) (suc m) (b ∷ bs) (inr x) (inr y) = ap suc (closes_one n m bs x.1 y.1)

quoted_one : (n m : ℕ) (bs : List ℕ) → Quoted n bs → Quoted m bs → n ≡ m
quoted_one zero m bs x y = absurd x
quoted_one (suc n) zero bs x y = absurd y
quoted_one (suc n) (suc m) [] x y = absurd x
quoted_one (suc zero) (suc zero) (b ∷ bs) x y = refl
quoted_one (suc zero) (suc (suc m)) (b ∷ []) x y = absurd y
quoted_one (suc zero) (suc (suc m)) (b ∷ c ∷ bs) x (inl y) = let f = double_quote_text b x in let g = y.0 in absurd (cc)
quoted_one (suc zero) (suc (suc m)) (b ∷ c ∷ bs) x (inr y) = let f = double_quote_backslash b x in let g = y.0 in absurd (cc)
quoted_one (suc (suc n)) (suc zero) (b ∷ []) x y = absurd x
quoted_one (suc (suc n)) (suc zero) (b ∷ c ∷ bs) (inl x) y = let f = double_quote_text b y in let g = x.0 in absurd (cc)
quoted_one (suc (suc n)) (suc zero) (b ∷ c ∷ bs) (inr x) y = let f = double_quote_backslash b y in let g = x.0 in absurd (cc)
quoted_one (suc (suc n)) (suc (suc m)) (b ∷ []) x y = absurd x
quoted_one (suc (suc n)) (suc (suc m)) (b ∷ c ∷ bs) (inl x) (inl y) = ap suc (quoted_one (suc n) (suc m) (c ∷ bs) x.1 y.1)
quoted_one (suc (suc n)) (suc (suc m)) (b ∷ c ∷ bs) (inl x) (inr y) = let f = text_backslash b x.0 in let g = y.0 in absurd (cc)
quoted_one (suc (suc n)) (suc (suc m)) (b ∷ c ∷ bs) (inr x) (inl y) = let f = text_backslash b y.0 in let g = x.0 in absurd (cc)
quoted_one (suc (suc n)) (suc (suc m)) (b ∷ c ∷ bs) (inr x) (inr y) = let e = quoted_one n m bs x.2 y.2 in omega arith

-- how far the closing quote of a character literal is: the first quote behind the first byte, or behind an escaped one
quote_at : List ℕ → ℕ
quote_at [] = 0
quote_at (b ∷ bs) = cond (is_quote b) 1 (suc (quote_at bs))

close_at : (n : ℕ) (bs : List ℕ) → One is_quote Nothing n bs → n ≡ quote_at bs
unfolding quote_at
close_at zero bs h = absurd h
close_at (suc n) [] h = absurd h
close_at (suc n) (b ∷ bs) (t, h) = rw t (omega arith)

next_at : (p : ℕ → Bool) (K : ℕ → List ℕ → Type 0) → ((b : ℕ) → p b ≡ true → is_quote b ≡ false) → ((n : ℕ) (bs : List ℕ) → K n bs → n ≡ quote_at bs)
    → (n : ℕ) (bs : List ℕ) → One p K n bs → n ≡ quote_at bs
unfolding quote_at
next_at p K apart k zero bs h = absurd h
next_at p K apart k (suc n) [] h = absurd h
next_at p K apart k (suc n) (b ∷ bs) (t, h) = rw (apart b t) (ap suc (k n bs h))

char_quote : (b : ℕ) → is_in_char b ≡ true → is_quote b ≡ false
char_quote b e = grind (arith, nat_tests)

two_quote : (b : ℕ) → is_first_of_two b ≡ true → is_quote b ≡ false
two_quote b e = grind (arith, nat_tests)

three_quote : (b : ℕ) → is_first_of_three b ≡ true → is_quote b ≡ false
three_quote b e = grind (arith, nat_tests)

continuation_quote : (b : ℕ) → is_continuation b ≡ true → is_quote b ≡ false
continuation_quote b e = grind (arith, nat_tests)

up_quote : (b : ℕ) → is_up_to_three b ≡ true → is_quote b ≡ false
up_quote b e = grind (arith, nat_tests)

char_not_backslash : (b : ℕ) → is_backslash b ≡ true → is_in_char b ≡ false
char_not_backslash b e = grind (arith, nat_tests)

-- the length of a character literal behind its opening quote
char_at : List ℕ → ℕ
char_at [] = 0
char_at (b ∷ []) = 0
char_at (b ∷ c ∷ bs) = cond (is_backslash b) (suc (suc (quote_at bs))) (suc (quote_at (c ∷ bs)))

abbrev Close : ℕ → List ℕ → Type 0
Close = One is_quote Nothing

unit_at : (p : ℕ → Bool) (K : ℕ → List ℕ → Type 0) → ((b : ℕ) → p b ≡ true → is_backslash b ≡ false) → ((n : ℕ) (bs : List ℕ) → K n bs → n ≡ quote_at bs) → ((n : ℕ) → K n [] → ⊥)
    → (n : ℕ) (bs : List ℕ) → One p K n bs → n ≡ char_at bs
unfolding char_at
unit_at p K apart k nil zero bs h = absurd h
unit_at p K apart k nil (suc n) [] h = absurd h
unit_at p K apart k nil (suc n) (b ∷ []) (t, h) = absurd (nil n h)
unit_at p K apart k nil (suc n) (b ∷ c ∷ bs) (t, h) = rw (apart b t) (ap suc (k n (c ∷ bs) h))

escape_at : (p : ℕ → Bool) (K : ℕ → List ℕ → Type 0) → ((n : ℕ) (bs : List ℕ) → K n bs → n ≡ quote_at bs) → (n b : ℕ) (bs : List ℕ) → is_backslash b ≡ true → One p K n bs → suc n ≡ char_at (b ∷ bs)
unfolding char_at
escape_at p K k zero b bs e h = absurd h
escape_at p K k (suc n) b [] e h = absurd h
escape_at p K k (suc n) b (c ∷ bs) e (t, h) = rw e (ap (λ m. suc (suc m)) (k n bs h))

nil_one : (p : ℕ → Bool) (K : ℕ → List ℕ → Type 0) (n : ℕ) → One p K n [] → ⊥
nil_one p K zero h = h
nil_one p K (suc n) h = h

char_backslash_not : (b : ℕ) → is_first_of_two b ≡ true → is_backslash b ≡ false
char_backslash_not b e = grind (arith, nat_tests)

three_backslash_not : (b : ℕ) → is_first_of_three b ≡ true → is_backslash b ≡ false
three_backslash_not b e = grind (arith, nat_tests)

char_is : (n : ℕ) (bs : List ℕ) → CharEnd n bs → n ≡ char_at bs
char_is n bs (inl (inl h)) = unit_at is_in_char Close char_backslash close_at (nil_one is_quote Nothing) n bs h
char_is n bs (inl (inr (inl h))) =
    unit_at is_first_of_two (One is_continuation Close) char_backslash_not (next_at is_continuation Close continuation_quote close_at) (nil_one is_continuation Close) n bs h
char_is n bs (inl (inr (inr h))) =
    unit_at is_first_of_three (One is_continuation (One is_continuation Close)) three_backslash_not
    (next_at is_continuation (One is_continuation Close) continuation_quote (next_at is_continuation Close continuation_quote close_at)) (nil_one is_continuation (One is_continuation Close)) n bs h
char_is zero bs (inr h) = absurd h
char_is (suc n) [] (inr h) = absurd h
char_is (suc n) (b ∷ bs) (inr (t, inl h)) = escape_at is_simple Close close_at n b bs t h
char_is (suc n) (b ∷ bs) (inr (t, inr (inl h))) = escape_at is_octal Close close_at n b bs t h
char_is (suc n) (b ∷ bs) (inr (t, inr (inr (inl h)))) = escape_at is_octal (One is_octal Close) (next_at is_octal Close octal_quote close_at) n b bs t h
char_is (suc n) (b ∷ bs) (inr (t, inr (inr (inr h)))) =
    escape_at is_up_to_three (One is_octal (One is_octal Close)) (next_at is_octal (One is_octal Close) octal_quote (next_at is_octal Close octal_quote close_at)) n b bs t h

char_one : (n m : ℕ) (bs : List ℕ) → CharEnd n bs → CharEnd m bs → n ≡ m
char_one n m bs x y = char_is n bs x ∙ sym (char_is m bs y)

-- ---- one piece

abbrev pub Second : List ℕ → List ℕ → Type 0
Second (u ∷ []) (b ∷ ys) = (is_slash b ≡ false) × (is_star b ≡ false) × (is_zero u ≡ true → is_x b ≡ false)
Second _ _ = Unit {0}

-- no piece that begins where `us` begins goes on behind it, literals in quotes and block comments aside
pub record Clear (us ys : List ℕ) : Type 0 where
  pub blank : (n : ℕ) → IsFront class.Blank n (us ++ ys) → n ≤ length us
  pub line : (n : ℕ) → IsFront class.LineComment n (us ++ ys) → n ≤ length us
  pub word : (n : ℕ) → IsFront class.Word n (us ++ ys) → n ≤ length us
  pub integer : (n : ℕ) → IsInteger n (us ++ ys) → n ≤ length us
  pub floating : (n : ℕ) → IsFloating n (us ++ ys) → n ≤ length us
  pub operator : (n : ℕ) → IsOperator n (us ++ ys) → n ≤ length us
  pub octal : (n : ℕ) → BadOctal n (us ++ ys) → n ≤ length us
  pub second : Second us ys

-- the same front in the old text
old : (p : Piece) (us xs ys : List ℕ) → IsFirst p (us ++ xs) → (c : Class) (n : ℕ) → IsFront c n (us ++ ys) → n ≤ length us → n ≤ p.len
old p us xs ys f c n h le = f.longest c n ((local_front c).stays n us ys xs le h)

-- in the other direction
none_old : (p : Piece) (us xs ys : List ℕ) → IsFirst p (us ++ xs) → p.len ≤ length us → (c : Class) → HasNo c (us ++ ys) → HasNo c (us ++ xs)
none_old p us xs ys f le c none n h = let most = f.longest c n h in none n ((local_front c).stays n us xs ys (omega arith) h)

block_bound : (p : Piece) (us xs ys : List ℕ) → IsFirst p (us ++ xs) → p.len ≤ length us → Second us ys → 0 < length us → (n : ℕ) → Block n (us ++ ys) → n ≤ length us
block_bound p [] xs ys f le s some n h = absurd (omega arith)
block_bound p (u ∷ us) xs ys f le s some zero h = absurd h
block_bound p (u ∷ []) xs [] f le s some (suc n) (t, h) = absurd (nil_one is_star Closes n h)
block_bound p (u ∷ []) xs (b ∷ ys) f le s some (suc zero) (t, h) = absurd h
block_bound p (u ∷ []) xs (b ∷ ys) f le s some (suc (suc n)) (t, h) = let g = h.0 in absurd (cc)
block_bound p (u ∷ v ∷ us) xs ys f le s some (suc zero) (t, h) = absurd h
block_bound p (u ∷ v ∷ us) xs ys f le s some (suc (suc n)) (t, h) = by_old (closing (us ++ xs)) (most_closing (us ++ xs))
  where
    none : ((m : ℕ) → Closes m (us ++ xs) → ⊥) → HasNo class.BlockComment (u ∷ v ∷ (us ++ xs))
    none o zero x = x
    none o (suc zero) x = x.1
    none o (suc (suc m)) x = o m x.1.1

    by_old : (o : Option ℕ) → Most Closes (us ++ xs) o → suc (suc n) ≤ suc (suc (length us))
    by_old None o = absurd (f.whole (inr (inr (inr (t, h.0, none o)))))
    by_old (Some k) o =
        let most = f.longest class.BlockComment (suc (suc k)) (t, (h.0, o.0)) in
        let new = (local_front class.BlockComment).stays (suc (suc k)) (u ∷ v ∷ us) xs ys (omega arith) (t, (h.0, o.0)) in
        let same = closes_one n k (us ++ ys) h.1 new.1.1 in
        omega arith

text_bound : (p : Piece) (us xs ys : List ℕ) → IsFirst p (us ++ xs) → p.len ≤ length us → 0 < length us → (n : ℕ) → IsFront class.Text n (us ++ ys) → n ≤ length us
text_bound p [] xs ys f le some n h = absurd (omega arith)
text_bound p (u ∷ us) xs ys f le some zero h = absurd h
text_bound p (u ∷ us) xs ys f le some (suc n) (t, h) = by_old (quoted (us ++ xs)) (most_quoted (us ++ xs))
  where
    none : ((m : ℕ) → Quoted m (us ++ xs) → ⊥) → HasNo class.Text (u ∷ (us ++ xs))
    none o zero x = x
    none o (suc m) x = o m x.1

    by_old : (o : Option ℕ) → Most Quoted (us ++ xs) o → suc n ≤ suc (length us)
    by_old None o = absurd (f.whole (inr (inr (inl (t, none o)))))
    by_old (Some k) o =
        let most = f.longest class.Text (suc k) (t, o.0) in
        let new = (local_front class.Text).stays (suc k) (u ∷ us) xs ys (omega arith) (t, o.0) in
        let same = quoted_one n k (us ++ ys) h new.1 in
        omega arith

character_bound : (p : Piece) (us xs ys : List ℕ) → IsFirst p (us ++ xs) → p.len ≤ length us → 0 < length us → (n : ℕ) → IsFront class.Character n (us ++ ys) → n ≤ length us
character_bound p [] xs ys f le some n h = absurd (omega arith)
character_bound p (u ∷ us) xs ys f le some zero h = absurd h
character_bound p (u ∷ us) xs ys f le some (suc n) (t, h) = by_old (character (us ++ xs)) (most_character (us ++ xs))
  where
    none : ((m : ℕ) → CharEnd m (us ++ xs) → ⊥) → HasNo class.Character (u ∷ (us ++ xs))
    none o zero x = x
    none o (suc m) x = o m x.1

    by_old : (o : Option ℕ) → Most CharEnd (us ++ xs) o → suc n ≤ suc (length us)
    by_old None o = absurd (f.whole (inr (inl (t, none o))))
    by_old (Some k) o =
        let most = f.longest class.Character (suc k) (t, o.0) in
        let new = (local_front class.Character).stays (suc k) (u ∷ us) xs ys (omega arith) (t, o.0) in
        let same = char_one n k (us ++ ys) h new.1 in
        omega arith

bound : (p : Piece) (us xs ys : List ℕ) → IsFirst p (us ++ xs) → p.len ≤ length us → 0 < length us → Clear us ys → (c : Class) (n : ℕ) → IsFront c n (us ++ ys) → n ≤ length us
bound p us xs ys f le some k class.Blank n h = k.blank n h
bound p us xs ys f le some k class.LineComment n h = k.line n h
bound p us xs ys f le some k class.BlockComment n h = block_bound p us xs ys f le k.second some n h
bound p us xs ys f le some k class.Word n h = k.word n h
bound p us xs ys f le some k class.Integer n h = k.integer n h
bound p us xs ys f le some k class.Floating n h = k.floating n h
bound p us xs ys f le some k class.Character n h = character_bound p us xs ys f le some n h
bound p us xs ys f le some k class.Text n h = text_bound p us xs ys f le some n h
bound p us xs ys f le some k class.Operator n h = k.operator n h

bare_old : (p : Piece) (us xs ys : List ℕ) → IsFirst p (us ++ xs) → p.len ≤ length us → Second us ys → HasNo class.Floating (us ++ xs) → IsBareHex (us ++ ys) → ⊥
bare_old p [] xs ys f le s none h = absurd (let some = first_some p xs f in omega arith)
bare_old p (u ∷ []) xs [] f le s none h = h
bare_old p (u ∷ []) xs (b ∷ ys) f le s none h = let x = s.2 h.0 in let y = h.1 in cc
bare_old p (u ∷ v ∷ []) xs ys f le s none h = by_hex xs _ refl f none
  where
    by_hex : (xs : List ℕ) (t : Bool) → is_hex (head xs) ≡ t → IsFirst p (u ∷ v ∷ xs) → HasNo class.Floating (u ∷ v ∷ xs) → ⊥
    by_hex xs false e g o = g.whole (inl (inl (h.0, h.1, e), o))
    by_hex [] true e g o = cc
    by_hex (x ∷ xs) true e g o = let most = g.longest class.Integer 3 (inr (inr (h.0, (h.1, (e, inl refl))))) in absurd (omega arith)
bare_old p (u ∷ v ∷ w ∷ us) xs ys f le s none h = f.whole (inl (inl h, none))

pub stay : (p : Piece) (us xs ys : List ℕ) → 0 < length us → IsFirst p (us ++ xs) → p.len ≤ length us → Clear us ys → IsFirst p (us ++ ys)
stay p us xs ys some f le k = record {
  front = (local_front p.class).stays p.len us xs ys le f.front;
  longest = λ c n h. old p us xs ys f c n h (bound p us xs ys f le some k c n h);
  whole = whole;
}
  where
    no_float : HasNo class.Floating (us ++ ys) → HasNo class.Floating (us ++ xs)
    no_float none = none_old p us xs ys f le class.Floating none

    same_head : (us : List ℕ) → 0 < length us → head (us ++ ys) ≡ head (us ++ xs)
    same_head [] some = absurd (omega arith)
    same_head (u ∷ us) some = refl

    open_comment : (us : List ℕ) → IsFirst p (us ++ xs) → p.len ≤ length us → Second us ys → IsOpenComment (us ++ ys) → ⊥
    open_comment [] f le s h = let some = first_some p xs f in absurd (omega arith)
    open_comment (u ∷ []) f le s h = alone ys s h
      where
        alone : (ys : List ℕ) → Second (u ∷ []) ys → IsOpenComment (u ∷ ys) → ⊥
        alone [] s h = h
        alone (b ∷ ys) s h = let x = s.1 in let y = h.1 in cc
    open_comment (u ∷ v ∷ us) f le s h = f.whole (inr (inr (inr (h.0, h.1, none_old p (u ∷ v ∷ us) xs ys f le class.BlockComment h.2))))

    whole : IsBroken (us ++ ys) → ⊥
    whole (inl (inl h, none)) = bare_old p us xs ys f le k.second (no_float none) h
    whole (inl (inr (n, h), none)) = f.whole (inl (inr (n, local_bad_octal.stays n us ys xs (k.octal n h) h), no_float none))
    whole (inr (inl (e, none))) = f.whole (inr (inl (subst (λ b. is_quote b ≡ true) (same_head us some) e, none_old p us xs ys f le class.Character none)))
    whole (inr (inr (inl (e, none)))) = f.whole (inr (inr (inl (subst (λ b. is_double_quote b ≡ true) (same_head us some) e, none_old p us xs ys f le class.Text none))))
    whole (inr (inr (inr h))) = open_comment us f le k.second h
