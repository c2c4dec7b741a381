-- Bytes of identifiers.
use Rattle.std.proofs.Common.{◌≡◌, ℕ, Bool, true, false, not, IsTrue, sym, List, [], ◌∷◌, length, inl, inr, ◌↔◌, refl, arith}
use Rattle.java_lexer.specs.Bytes.{is_part, is_keyword}
use Rattle.java_lexer.specs.Forms.{Many, Nothing}
use Rattle.command_words.specs.Names.{IsIdentifier}
use Rattle.command_words.specs.Scan.{AreLater, IsSpelled}
use Rattle.java_lexer.specs.Splice.{IsWord}

pub later_many : (bs : List ℕ) → AreLater bs → Many is_part Nothing (length bs) bs
later_many [] h = refl
later_many (b ∷ bs) (t, h) = inr (t, later_many bs h)

pub many_later : (bs : List ℕ) → Many is_part Nothing (length bs) bs → AreLater bs
many_later [] h = tt
many_later (b ∷ bs) (inl h) = absurd (omega arith)
many_later (b ∷ bs) (inr (t, h)) = (t, many_later bs h)

pub word_is : (w : List ℕ) → IsSpelled w ↔ IsWord w
word_is [] = (λ h. h, λ h. h)
word_is (b ∷ bs) = (λ h. (h.0, later_many bs h.1), λ h. (h.0, many_later bs h.1))

pub identifier_is : (w : List ℕ) (k : Bool) → IsSpelled w → k ≡ is_keyword w → IsTrue (not k) ↔ IsIdentifier w
identifier_is w true h e = (λ t. absurd (cc), λ i. absurd (let f = i.1 in cc))
identifier_is w false h e = (λ t. ((word_is w).0 h, sym e), λ i. refl)

pub no_identifier : (w : List ℕ) (a : Bool) → a ≡ false → (IsSpelled w → ⊥) → IsTrue a ↔ IsIdentifier w
no_identifier w a e h = (λ t. absurd (cc), λ i. absurd (h ((word_is w).1 i.0)))
