-- Steps of reading UTF-8.
use Rattle.std.proofs.Common.{◌≡◌, ℕ, ◌+◌, ◌-◌, ◌*◌, ◌<◌, ◌≤◌, suc, zero, List, [], ◌∷◌, ◌++◌, length, get_or, drop, refl, ap, arith, add-one}
use Rattle.std.proofs.lemmas.List.{append-nil}
use Rattle.std.proofs.Math.Seq.{drop-cons}
use Rattle.std.proofs.Math.ListN.{drop_of_length-le}
use Rattle.std.specs.Prelude.{flat_map}
use Rattle.std.specs.Str.{chars, chars_after, continuation_len, lead_bits}
use Rattle.std.specs.Char.Escape.{encode_utf16}
use Rattle.core_meaning.specs.Texts.{units_of_bytes}

-- the units of a character of which n bytes are to come and c is what is known, and of the bytes after it
abbrev pub units_after : ℕ → ℕ → List ℕ → List ℕ
units_after n c bytes = flat_map encode_utf16 (chars_after n c bytes)

pub first_byte : (b left bits code : ℕ) (bytes rest units : List ℕ) → bytes ≡ b ∷ rest → units ≡ [] → left ≡ continuation_len b → bits ≡ lead_bits b → code ≡ bits
    → units_of_bytes bytes ≡ units ++ units_after left code rest
unfolding chars
first_byte b left bits code bytes rest units whole none n low same = rw (whole, none, n, same, low)

pub first_below : (b : ℕ) (bytes rest : List ℕ) → bytes ≡ b ∷ rest → get_or bytes 0 0 < 256 → b < 256
first_below b bytes rest whole below = rw whole at below

pub no_byte : (bytes : List ℕ) → length bytes ≡ 0 → units_of_bytes bytes ≡ []
unfolding chars
no_byte [] none = refl
no_byte (b ∷ bytes) none = absurd (omega arith)

pub next_character : (c i : ℕ) (bytes : List ℕ) → i < length bytes
    → units_after 0 c (drop i bytes) ≡ encode_utf16 c ++ units_after (continuation_len (get_or bytes i 0)) (lead_bits (get_or bytes i 0)) (drop (i + 1) bytes)
next_character c i bytes within = rw (add-one, drop-cons bytes i 0 within)

pub next_byte : (n c i : ℕ) (bytes : List ℕ) → 0 < n → i < length bytes
    → units_after n c (drop i bytes) ≡ units_after (n - 1) (c * 64 + (get_or bytes i 0 - 128)) (drop (i + 1) bytes)
next_byte zero c i bytes some within = absurd (omega arith)
next_byte (suc n) c i bytes some within =
    rw (add-one, drop-cons bytes i 0 within) (ap (λ k. units_after k (c * 64 + (get_or bytes i 0 - 128)) (drop (suc i) bytes)) {x = n} {y = suc n - 1} (omega arith))

pub last_character : (c i : ℕ) (bytes : List ℕ) → length bytes ≤ i → units_after 0 c (drop i bytes) ≡ encode_utf16 c
last_character c i bytes past = rw (drop_of_length-le bytes past) (append-nil (encode_utf16 c))

pub cut_off : (n c i : ℕ) (bytes : List ℕ) → 0 < n → length bytes ≤ i → units_after n c (drop i bytes) ≡ []
cut_off zero c i bytes some past = absurd (omega arith)
cut_off (suc n) c i bytes some past = rw (drop_of_length-le bytes past)
