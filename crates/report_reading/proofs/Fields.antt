-- A field that is read is the field that was written, and what was written is read again.
use Rattle.std.proofs.Common.{◌≡◌, ℕ, ◌<◌, ◌≤◌, ◌^◌, ◌-◌, Bool, true, false, cond, eqb, ltb, List, [], ◌∷◌, ◌++◌, length, take, drop, Option, Some, None, refl, sym, ap, ◌∙◌, subst, append_assoc, ◌⊎◌, inl, inr, arith}
use Rattle.std.specs.Prelude.{codes}
use Rattle.std.specs.Fmt.{decimal}
use Rattle.std.specs.List.{list_all, slice_split}
use Rattle.std.specs.Char.{is_ascii_digit}
use Rattle.std.specs.Str.{bytes_eq, IsAscii, IsUtf8}
use Rattle.std.proofs.lemmas.Bool.{and_parts, and_from, eqb-true, eq-eqb, ne_eqb, false≢true, ltb-false, le-ltb}
use Rattle.std.proofs.lemmas.Bool.Decides.{nat_tests}
use Rattle.std.proofs.lemmas.List.{append-nil, take_at, drop_at, take-append-drop, length-append, length-take}
use Rattle.std.proofs.lemmas.List.Folds.{list_all-append}
use Rattle.std.proofs.lemmas.Slice.Eq.{bytes_eq-Decides}
use Rattle.std.proofs.lemmas.Str.{IsUtf8-from_ascii}
use Rattle.std.proofs.lemmas.Str.Ascii.{IsAscii-nil, IsAscii-cons}
use Rattle.edit_writer.specs.declared.places.Place.{Place}
use Rattle.report_text.specs.Report.{place_text}
use Rattle.report_reading.specs.Words.{is_name_byte, is_slash, is_path_byte, is_word_byte, is_part, is_path, is_kind, IsPlace}
use Rattle.report_reading.specs.Reading.{◌>>=◌, seek, field, text_of, path_of, kind_of, number_of, place_of, after, bytes_at}
use Rattle.report_reading.proofs.Numbers.{cond_some, number_takes, number_again, number_digits}

-- ---- bytes

word_byte_ascii : (b : ℕ) → is_word_byte b ≡ true → b < 128
word_byte_ascii b e = grind (arith, nat_tests)

text_is_ascii : (w : List ℕ) → list_all is_word_byte w ≡ true → IsAscii w
text_is_ascii [] e = IsAscii-nil
text_is_ascii (b ∷ bs) e =
    let both = and_parts (is_word_byte b) (list_all is_word_byte bs) e in
    IsAscii-cons b bs (word_byte_ascii b both.0) (text_is_ascii bs both.1)

pub text_is_utf8 : (w : List ℕ) → list_all is_word_byte w ≡ true → IsUtf8 w
text_is_utf8 w e = IsUtf8-from_ascii w (text_is_ascii w e)

-- a test that passes more
weaken : (p q : ℕ → Bool) → ((b : ℕ) → p b ≡ true → q b ≡ true) → (w : List ℕ) → list_all p w ≡ true → list_all q w ≡ true
weaken p q h [] e = refl
weaken p q h (b ∷ bs) e =
    let both = and_parts (p b) (list_all p bs) e in
    and_from (q b) (list_all q bs) (h b both.0) (weaken p q h bs both.1)

-- ---- steps

pub bind_some : {A B : Type 0} (o : Option A) (f : A → Option B) (y : B) → (o >>= f) ≡ Some y → (x : A) × (o ≡ Some x) × (f x ≡ Some y)
bind_some (Some x) f y e = (x, refl, e)
bind_some None f y e = absurd cc

abbrev found : {A : Type 0} → A → Option A
found x = Some x

pub some_is : {A : Type 0} (x y : A) → found x ≡ found y → x ≡ y
some_is x y e = cc

-- ---- up to a byte

seek_takes : (end : ℕ) (front text : List ℕ) (x : List ℕ × List ℕ) → seek end front text ≡ Some x → front ++ text ≡ x.0 ++ (end ∷ x.1)
seek_takes end front [] x e = absurd cc
seek_takes end front (b ∷ bs) x e = at_byte (eqb b end) refl e (seek_takes end (front ++ b ∷ []) bs x)
  where
    at_byte : (t : Bool) → eqb b end ≡ t → cond t (Some (front, bs)) (seek end (front ++ b ∷ []) bs) ≡ Some x
        → (seek end (front ++ b ∷ []) bs ≡ Some x → (front ++ b ∷ []) ++ bs ≡ x.0 ++ (end ∷ x.1)) → front ++ (b ∷ bs) ≡ x.0 ++ (end ∷ x.1)
    at_byte true is e later =
        let here : b ≡ end = eqb-true b end is in
        subst (λ (y : List ℕ × List ℕ). front ++ (b ∷ bs) ≡ y.0 ++ (end ∷ y.1)) (some_is (front, bs) x e) (ap (λ (k : ℕ). front ++ (k ∷ bs)) here)
    at_byte false is e later = sym (append_assoc front (b ∷ []) bs) ∙ later e

-- the bytes before it pass a test that it does not pass
seek_again : (p : ℕ → Bool) (end : ℕ) → p end ≡ false → (front w rest : List ℕ) → list_all p w ≡ true → seek end front (w ++ (end ∷ rest)) ≡ Some (front ++ w, rest)
seek_again p end not_in front [] rest e =
    let is : eqb end end ≡ true = eq-eqb end end refl in
    rw (is, append-nil front) refl
seek_again p end not_in front (b ∷ bs) rest e =
    let both = and_parts (p b) (list_all p bs) e in
    let other : eqb b end ≡ false = ne_eqb b end (λ s. false≢true (sym not_in ∙ ap p (sym s) ∙ both.0)) in
    rw other (seek_again p end not_in (front ++ b ∷ []) bs rest both.1 ∙ ap (λ (x : List ℕ). Some (x, rest)) (append_assoc front (b ∷ []) bs))

-- ---- fields

-- what is read of a word, and how it is spelled, in bytes that pass p
pub record IsField {X : Type 0} (of : List ℕ → Option X) (spell : X → List ℕ) (Fits : X → Type 0) (p : ℕ → Bool) : Type 0 where
  pub takes : (w : List ℕ) (x : X) → of w ≡ Some x → (w ≡ spell x) × Fits x
  pub again : (x : X) → Fits x → of (spell x) ≡ Some x
  pub bytes : (x : X) → Fits x → list_all p (spell x) ≡ true

pub field_takes : {X : Type 0} (of : List ℕ → Option X) (spell : X → List ℕ) (Fits : X → Type 0) (p : ℕ → Bool) → IsField of spell Fits p
    → (end : ℕ) (text : List ℕ) (x : X × List ℕ) → field of end text ≡ Some x → (text ≡ spell x.0 ++ (end ∷ x.1)) × Fits x.0
unfolding field
field_takes {X = X} of spell Fits p is end text x e =
    let a = bind_some (seek end [] text) (λ w. of w.0 >>= λ y. Some (y, w.1)) x e in
    let b = bind_some (of a.0.0) (λ y. Some (y, a.0.1)) x a.2 in
    let t = is.takes a.0.0 b.0 b.1 in
    let whole : text ≡ spell b.0 ++ (end ∷ a.0.1) = seek_takes end [] text a.0 a.1 ∙ ap (λ (w : List ℕ). w ++ (end ∷ a.0.1)) t.0 in
    subst (λ (y : X × List ℕ). (text ≡ spell y.0 ++ (end ∷ y.1)) × Fits y.0) (some_is (b.0, a.0.1) x b.2) (whole, t.1)

pub field_again : {X : Type 0} (of : List ℕ → Option X) (spell : X → List ℕ) (Fits : X → Type 0) (p : ℕ → Bool) → IsField of spell Fits p
    → (end : ℕ) → p end ≡ false → (x : X) (rest : List ℕ) → Fits x → field of end (spell x ++ (end ∷ rest)) ≡ Some (x, rest)
unfolding field
field_again of spell Fits p is end not_in x rest fits =
    rw (seek_again p end not_in [] (spell x) rest (is.bytes x fits), is.again x fits) refl

-- ---- words

abbrev pub same : List ℕ → List ℕ
same w = w

text_takes : (w x : List ℕ) → text_of w ≡ Some x → (w ≡ x)
unfolding text_of
text_takes w x e = (cond_some (list_all is_word_byte w) w x e).1

text_again : (w : List ℕ) → list_all is_word_byte w ≡ true → text_of w ≡ Some w
unfolding text_of
text_again w e = rw e refl

-- a word that passes a test of its own
guard_some : {X : Type 0} (b : Bool) (o : Option X) (x : X) → cond b o None ≡ Some x → (b ≡ true) × (o ≡ Some x)
guard_some true o x e = (refl, e)
guard_some false o x e = absurd cc

name_in_path : (b : ℕ) → is_name_byte b ≡ true → is_word_byte b ≡ true
name_in_path b e = grind (arith, nat_tests)

path_in_word : (b : ℕ) → is_path_byte b ≡ true → is_word_byte b ≡ true
path_in_word b e = grind (arith, nat_tests)

digit_in_word : (b : ℕ) → is_ascii_digit b ≡ true → is_word_byte b ≡ true
digit_in_word b e = grind (arith, nat_tests)

path_bytes : (w : List ℕ) → is_path w ≡ true → list_all is_path_byte w ≡ true
path_bytes w e = (and_parts (list_all is_path_byte w) (list_all is_part (slice_split is_slash w)) e).0

pub paths : IsField path_of same (λ w. is_path w ≡ true) is_path_byte
unfolding path_of
paths = record {
  takes = λ w x e. let g = guard_some (is_path w) (text_of w) x e in let t = text_takes w x g.1 in (t, subst (λ (v : List ℕ). is_path v ≡ true) t g.0);
  again = λ w h. rw h (text_again w (weaken is_path_byte is_word_byte path_in_word w (path_bytes w h)));
  bytes = path_bytes;
}

kind_bytes : (w : List ℕ) → is_kind w ≡ true → list_all is_name_byte w ≡ true
kind_bytes w e = (and_parts _ (list_all is_name_byte w) e).1

pub kinds : IsField kind_of same (λ w. is_kind w ≡ true) is_name_byte
unfolding kind_of
kinds = record {
  takes = λ w x e. let g = guard_some (is_kind w) (text_of w) x e in let t = text_takes w x g.1 in (t, subst (λ (v : List ℕ). is_kind v ≡ true) t g.0);
  again = λ w h. rw h (text_again w (weaken is_name_byte is_word_byte name_in_path w (kind_bytes w h)));
  bytes = kind_bytes;
}

pub numbers : (most : ℕ) → most < 2 ^ 64 → IsField (number_of most) decimal (λ n. n ≤ most) is_ascii_digit
numbers most lt = record {
  takes = λ w n e. number_takes most w n e;
  again = λ n le. number_again most n le lt;
  bytes = λ n le. number_digits n (omega arith);
}

-- FILE:LINE:COL
colon : (a b : List ℕ) → list_all is_word_byte a ≡ true → list_all is_word_byte b ≡ true → list_all is_word_byte (a ++ (58 ∷ b)) ≡ true
colon a b e f = rw (list_all-append is_word_byte a (58 ∷ b)) (and_from (list_all is_word_byte a) (list_all is_word_byte b) e f)

digits_word : (n : ℕ) → n < 2 ^ 32 → list_all is_word_byte (decimal n) ≡ true
digits_word n lt = weaken is_ascii_digit is_word_byte digit_in_word (decimal n) (number_digits n (omega arith))

place_bytes : (file : List ℕ) (at : Place) → is_path file ≡ true → at.line < 2 ^ 32 → at.col < 2 ^ 32 → list_all is_word_byte (place_text file at) ≡ true
place_bytes file at e l k =
    colon file (decimal at.line ++ (58 ∷ decimal at.col)) (weaken is_path_byte is_word_byte path_in_word file (path_bytes file e)) (colon (decimal at.line) (decimal at.col) (digits_word at.line l) (digits_word at.col k))

place_again : (file : List ℕ) (at : Place) → is_path file ≡ true → at.line < 2 ^ 32 → at.col < 2 ^ 32 → place_of (place_text file at) ≡ Some (place_text file at)
unfolding place_of
place_again file at e l k =
    rw (
      seek_again is_path_byte 58 refl [] file (decimal at.line ++ (58 ∷ decimal at.col)) (path_bytes file e),
      seek_again is_ascii_digit 58 refl [] (decimal at.line) (decimal at.col) (number_digits at.line (omega arith)),
      number_again (2 ^ 32 - 1) at.line (omega arith) (omega arith),
      number_again (2 ^ 32 - 1) at.col (omega arith) (omega arith),
      e,
    )
    (text_again (place_text file at) (place_bytes file at e l k))

place_takes : (w x : List ℕ) → place_of w ≡ Some x → (w ≡ x) × IsPlace x
unfolding place_of
place_takes w x e =
    let most : ℕ = 2 ^ 32 - 1 in
    let a = bind_some (seek 58 [] w) (λ file. seek 58 [] file.1 >>= λ at. number_of most at.0 >>= λ line. number_of most at.1 >>= λ col. cond (is_path file.0) (text_of w) None) x e in
    let b = bind_some (seek 58 [] a.0.1) (λ at. number_of most at.0 >>= λ line. number_of most at.1 >>= λ col. cond (is_path a.0.0) (text_of w) None) x a.2 in
    let l = bind_some (number_of most b.0.0) (λ line. number_of most b.0.1 >>= λ col. cond (is_path a.0.0) (text_of w) None) x b.2 in
    let k = bind_some (number_of most b.0.1) (λ col. cond (is_path a.0.0) (text_of w) None) x l.2 in
    let g = guard_some (is_path a.0.0) (text_of w) x k.2 in
    let line = number_takes most b.0.0 l.0 l.1 in
    let col = number_takes most b.0.1 k.0 k.1 in
    let at : Place = record { line = l.0; col = k.0 } in
    let text : w ≡ place_text a.0.0 at =
    seek_takes 58 [] w a.0 a.1
    ∙ ap (λ (z : List ℕ). a.0.0 ++ (58 ∷ z)) (seek_takes 58 [] a.0.1 b.0 b.1 ∙ ap (λ (z : List ℕ). z ++ (58 ∷ b.0.1)) line.0 ∙ ap (λ (z : List ℕ). decimal l.0 ++ (58 ∷ z)) col.0) in
    let t = text_takes w x g.1 in
    (t, subst IsPlace t (record { file = a.0.0; at = at; path = g.0; line = omega (arith, line.1); col = omega (arith, col.1); text = text }))

pub places : IsField place_of same IsPlace is_word_byte
places = record {
  takes = place_takes;
  again = λ w h. subst (λ (v : List ℕ). place_of v ≡ Some v) (sym h.text) (place_again h.file h.at h.path h.line h.col);
  bytes = λ w h. subst (λ (v : List ℕ). list_all is_word_byte v ≡ true) (sym h.text) (place_bytes h.file h.at h.path h.line h.col);
}

-- ---- known bytes, and a number of bytes

pub after_takes : (front text rest : List ℕ) → after front text ≡ Some rest → text ≡ front ++ rest
unfolding after
after_takes front text rest e =
    let n = length front in
    let g = cond_some (bytes_eq (take n text) front) (drop n text) rest e in
    let is : take n text ≡ front = (bytes_eq-Decides (take n text) front).0 g.0 in
    sym (take-append-drop n text) ∙ ap (λ (x : List ℕ). x ++ drop n text) is ∙ ap (λ (x : List ℕ). front ++ x) g.1

pub after_again : (front rest : List ℕ) → after front (front ++ rest) ≡ Some rest
unfolding after
after_again front rest =
    let is : bytes_eq front front ≡ true = (bytes_eq-Decides front front).1 refl in
    rw (take_at front rest (length front) refl, drop_at front rest (length front) refl, is) refl

guard_none : {X : Type 0} (b : Bool) (x y : X) → cond b None (Some x) ≡ Some y → (b ≡ false) × (x ≡ y)
guard_none true x y e = absurd cc
guard_none false x y e = (refl, cc)

pub bytes_takes : (n : ℕ) (text : List ℕ) (x : List ℕ × List ℕ) → bytes_at n text ≡ Some x → (text ≡ x.0 ++ x.1) × (length x.0 ≡ n)
unfolding bytes_at
bytes_takes n text x e =
    let g = guard_none (ltb (length text) n) (take n text, drop n text) x e in
    let long : n ≤ length text = ltb-false (length text) n g.0 in
    subst (λ (y : List ℕ × List ℕ). (text ≡ y.0 ++ y.1) × (length y.0 ≡ n)) g.1 (sym (take-append-drop n text), omega (arith, length-take n text))

pub bytes_again : (t rest : List ℕ) → bytes_at (length t) (t ++ rest) ≡ Some (t, rest)
unfolding bytes_at
bytes_again t rest =
    let long : ltb (length (t ++ rest)) (length t) ≡ false = le-ltb _ _ (omega (arith, length-append t rest)) in
    rw (long, take_at t rest (length t) refl, drop_at t rest (length t) refl) refl
