-- What is printed of units that begin with a pair, or with another unit.
use Rattle.std.proofs.Common.{◌≡◌, ℕ, ◌+◌, ◌/◌, ◌%◌, ◌<◌, ◌≤◌, length, true, false, List, [], ◌∷◌, ◌++◌, refl, sym, ap, ◌∙◌, arith, append_assoc}
use Rattle.std.proofs.lemmas.List.{append-nil}
use Rattle.std.specs.Prelude.{◌&&◌}
use Rattle.std.specs.Char.{encode_utf8}
use Rattle.std.specs.Char.Utf16.{utf16_chars, lone_unit_char, is_high_surrogate, is_low_surrogate, surrogate_pair_char}
use Rattle.core_meaning.specs.Texts.{character_bytes, printed_bytes}

pub one_byte : (c : ℕ) → c < 128 → encode_utf8 c ≡ c ∷ []
unfolding encode_utf8
one_byte c below = grind arith

pub two_bytes : (c : ℕ) → 128 ≤ c → c < 2048 → encode_utf8 c ≡ (192 + c / 64) ∷ (128 + c % 64) ∷ []
unfolding encode_utf8
two_bytes c from below = grind arith

pub three_bytes : (c : ℕ) → 2048 ≤ c → c < 65536 → encode_utf8 c ≡ (224 + c / 4096) ∷ (128 + c / 64 % 64) ∷ (128 + c % 64) ∷ []
unfolding encode_utf8
three_bytes c from below = grind arith

pub four_bytes : (c : ℕ) → 65536 ≤ c → encode_utf8 c ≡ (240 + c / 262144) ∷ (128 + c / 4096 % 64) ∷ (128 + c / 64 % 64) ∷ (128 + c % 64) ∷ []
unfolding encode_utf8
four_bytes c from = grind arith

pub two_pushed : (to x y : List ℕ) (a b : ℕ) → x ≡ to ++ a ∷ [] → y ≡ x ++ b ∷ [] → y ≡ to ++ a ∷ b ∷ []
two_pushed to x y a b e f = f ∙ ap (λ bytes. bytes ++ b ∷ []) e ∙ append_assoc to (a ∷ []) (b ∷ [])

pub three_pushed : (to x y z : List ℕ) (a b c : ℕ) → x ≡ to ++ a ∷ [] → y ≡ x ++ b ∷ [] → z ≡ y ++ c ∷ [] → z ≡ to ++ a ∷ b ∷ c ∷ []
three_pushed to x y z a b c e f g = g ∙ ap (λ bytes. bytes ++ c ∷ []) (two_pushed to x y a b e f) ∙ append_assoc to (a ∷ b ∷ []) (c ∷ [])

pub four_pushed : (to x y z all : List ℕ) (a b c d : ℕ) → x ≡ to ++ a ∷ [] → y ≡ x ++ b ∷ [] → z ≡ y ++ c ∷ [] → all ≡ z ++ d ∷ []
    → all ≡ to ++ a ∷ b ∷ c ∷ d ∷ []
four_pushed to x y z all a b c d e f g h =
    h ∙ ap (λ bytes. bytes ++ d ∷ []) (three_pushed to x y z a b c e f g) ∙ append_assoc to (a ∷ b ∷ c ∷ []) (d ∷ [])

-- ---- what units print

printed_pair : (u v : ℕ) (us : List ℕ) → (is_high_surrogate u && is_low_surrogate v) ≡ true
    → printed_bytes (u ∷ v ∷ us) ≡ encode_utf8 (surrogate_pair_char u v) ++ printed_bytes us
unfolding utf16_chars
printed_pair u v us pair = rw pair

printed_lone : (u v : ℕ) (us : List ℕ) → (is_high_surrogate u && is_low_surrogate v) ≡ false
    → printed_bytes (u ∷ v ∷ us) ≡ character_bytes (lone_unit_char u) ++ printed_bytes (v ∷ us)
unfolding utf16_chars
printed_lone u v us apart = rw apart

printed_last : (u : ℕ) → printed_bytes (u ∷ []) ≡ character_bytes (lone_unit_char u)
unfolding utf16_chars
printed_last u = append-nil (character_bytes (lone_unit_char u))

pub printed_all : (to us : List ℕ) → length us ≡ 0 → to ++ printed_bytes us ≡ to
unfolding utf16_chars
printed_all to [] none = append-nil to
printed_all to (u ∷ us) none = absurd (omega arith)

-- ---- what is appended at the first character

pub after_pair : (to new : List ℕ) (u v : ℕ) (us : List ℕ) → (is_high_surrogate u && is_low_surrogate v) ≡ true
    → new ≡ to ++ encode_utf8 (surrogate_pair_char u v) → new ++ printed_bytes us ≡ to ++ printed_bytes (u ∷ v ∷ us)
after_pair to new u v us pair e =
    ap (λ xs. xs ++ printed_bytes us) e ∙ append_assoc to (encode_utf8 (surrogate_pair_char u v)) (printed_bytes us)
    ∙ ap (λ xs. to ++ xs) (sym (printed_pair u v us pair))

pub after_lone : (to new : List ℕ) (u v : ℕ) (us : List ℕ) → (is_high_surrogate u && is_low_surrogate v) ≡ false
    → new ≡ to ++ character_bytes (lone_unit_char u) → new ++ printed_bytes (v ∷ us) ≡ to ++ printed_bytes (u ∷ v ∷ us)
after_lone to new u v us apart e =
    ap (λ xs. xs ++ printed_bytes (v ∷ us)) e ∙ append_assoc to (character_bytes (lone_unit_char u)) (printed_bytes (v ∷ us))
    ∙ ap (λ xs. to ++ xs) (sym (printed_lone u v us apart))

pub after_last : (to new : List ℕ) (u : ℕ) (us : List ℕ) → length us ≡ 0
    → new ≡ to ++ character_bytes (lone_unit_char u) → new ++ printed_bytes us ≡ to ++ printed_bytes (u ∷ us)
after_last to new u [] none e = printed_all new [] refl ∙ e ∙ ap (λ xs. to ++ xs) (sym (printed_last u))
after_last to new u (v ∷ us) none e = absurd (omega arith)
