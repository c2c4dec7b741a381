-- Tokens seen one after the other.
use Rattle.std.proofs.Common.{◌≡◌, ◌≤◌, ℕ, zero, suc, ◌+◌, List, [], ◌∷◌, ◌++◌, Some, length, take, slice_get, refl, sym, ap, ◌∙◌, add-one, arith}
use Rattle.java_tree.specs.declared.tree.Token.{Token}
use Rattle.java_tree.specs.declared.tree.Span.{Span}
use Rattle.java_tree.specs.declared.tree.Kind.{Kind}
use Rattle.java_tree.specs.declared.tree.Kind.TheVariants as kind
use Rattle.java_tree.specs.Names.{IsFront, AreDistinct}
use Rattle.java_tree.proofs.Tables.{front_of_front}
use Rattle.java_grammar.specs.declared.token.Tok.{Tok}
use Rattle.java_grammar.specs.declared.token.Sort.{Sort}
use Rattle.java_grammar.specs.Sorts.{bytes_in, HasName, IsTok, AreToks}
use Rattle.java_grammar.specs.Interned.{with_word, interned}

name_kept : (a b : List (List ℕ)) → IsFront a b → (k : Kind) (w : List ℕ) (n : ℕ) → HasName a k w n → HasName b k w n
name_kept a b f kind.Word w n h = f n w h
name_kept a b f kind.Keyword w n h = h
name_kept a b f kind.Int w n h = h
name_kept a b f kind.Long w n h = h
name_kept a b f kind.Float w n h = h
name_kept a b f kind.Char w n h = h
name_kept a b f kind.Text w n h = h
name_kept a b f kind.Op w n h = h

tok_kept : (text : List ℕ) (a b : List (List ℕ)) → IsFront a b → (x : Token) (t : Tok) → IsTok text a x t → IsTok text b x t
tok_kept text a b f x t is = record { span = is.span; sort = is.sort; name = name_kept a b f x.kind (bytes_in text x.span) t.name is.name }

pub toks_kept : (text : List ℕ) (a b : List (List ℕ)) → IsFront a b → (xs : List Token) (ts : List Tok) → AreToks text a xs ts → AreToks text b xs ts
toks_kept text a b f [] ts are = are
toks_kept text a b f (x ∷ xs) [] are = are
toks_kept text a b f (x ∷ xs) (t ∷ ts) (is, are) = (tok_kept text a b f x t is, toks_kept text a b f xs ts are)

-- ---- by distinct names there is one list

one_name : (names : List (List ℕ)) → AreDistinct names → (k : Kind) (w : List ℕ) (m n : ℕ) → HasName names k w m → HasName names k w n → m ≡ n
one_name names d kind.Word w m n a b = d m n w a b
one_name names d kind.Keyword w m n a b = a ∙ sym b
one_name names d kind.Int w m n a b = a ∙ sym b
one_name names d kind.Long w m n a b = a ∙ sym b
one_name names d kind.Float w m n a b = a ∙ sym b
one_name names d kind.Char w m n a b = a ∙ sym b
one_name names d kind.Text w m n a b = a ∙ sym b
one_name names d kind.Op w m n a b = a ∙ sym b

abbrev made : Sort → ℕ → Span → Tok
made x n p = record { sort = x; name = n; span = p }

same_parts : (x y : Sort) (m n : ℕ) (p q : Span) → x ≡ y → m ≡ n → p ≡ q → made x m p ≡ made y n q
same_parts x y m n p q e f g = rw (e, f, g) refl

one_tok : (text : List ℕ) (names : List (List ℕ)) → AreDistinct names → (x : Token) (t u : Tok) → IsTok text names x t → IsTok text names x u → t ≡ u
one_tok text names d x t u a b =
    same_parts t.sort u.sort t.name u.name t.span u.span (a.sort ∙ sym b.sort) (one_name names d x.kind (bytes_in text x.span) t.name u.name a.name b.name) (a.span ∙ sym b.span)

pub one_toks : (text : List ℕ) (names : List (List ℕ)) → AreDistinct names → (xs : List Token) (ts us : List Tok) → AreToks text names xs ts → AreToks text names xs us → ts ≡ us
one_toks text names d [] ts us a b = a ∙ sym b
one_toks text names d (x ∷ xs) [] us a b = absurd a
one_toks text names d (x ∷ xs) (t ∷ ts) [] a b = absurd b
one_toks text names d (x ∷ xs) (t ∷ ts) (u ∷ us) (a, more) (b, also) =
    let first : t ≡ u = one_tok text names d x t u a b in
    let rest : ts ≡ us = one_toks text names d xs ts us more also in
    cc

pub as_many : (text : List ℕ) (names : List (List ℕ)) (xs : List Token) (ts : List Tok) → AreToks text names xs ts → length ts ≡ length xs
as_many text names [] ts are = ap length are
as_many text names (x ∷ xs) [] are = absurd are
as_many text names (x ∷ xs) (t ∷ ts) (is, are) = omega (arith, as_many text names xs ts are)

-- ---- one token more

one_more : (text : List ℕ) (names : List (List ℕ)) (xs : List Token) (ts : List Tok) (x : Token) (t : Tok) → AreToks text names xs ts → IsTok text names x t
    → AreToks text names (xs ++ x ∷ []) (ts ++ t ∷ [])
one_more text names [] [] x t are is = (is, refl)
one_more text names [] (u ∷ us) x t are is = absurd (cc)
one_more text names (y ∷ ys) [] x t are is = absurd are
one_more text names (y ∷ ys) (u ∷ us) x t (first, are) is = (first, one_more text names ys us x t are is)

take_more : {X : Type 0} (xs : List X) (i : ℕ) (x : X) → slice_get xs i ≡ Some x → take (suc i) xs ≡ take i xs ++ x ∷ []
take_more [] i x e = absurd (cc)
take_more (y ∷ ys) zero x e = let same : y ≡ x = cc in ap (λ z. z ∷ []) same
take_more (y ∷ ys) (suc i) x e = ap (λ zs. y ∷ zs) (take_more ys i x e)

interned_more : (text : List ℕ) (xs : List Token) (x : Token) (names : List (List ℕ))
    → interned text (xs ++ x ∷ []) names ≡ with_word x.kind (bytes_in text x.span) (interned text xs names)
interned_more text [] x names = refl
interned_more text (y ∷ ys) x names = interned_more text ys x (with_word y.kind (bytes_in text y.span) names)

-- i tokens are seen
pub record Reading (text : List ℕ) (tokens : List Token) (i : ℕ) (toks : List Tok) (old names : List (List ℕ)) : Type 0 where
  pub seen : AreToks text names (take i tokens) toks
  pub table : names ≡ interned text (take i tokens) old
  pub kept : IsFront old names
  pub distinct : AreDistinct old → AreDistinct names
  pub grown : length names ≤ length old + i

pub reading_more : (text : List ℕ) (tokens : List Token) (i : ℕ) (toks : List Tok) (old names new : List (List ℕ)) (x : Token) (t : Tok)
    → Reading text tokens i toks old names → slice_get tokens i ≡ Some x → IsTok text new x t
    → new ≡ with_word x.kind (bytes_in text x.span) names → IsFront names new → (AreDistinct names → AreDistinct new)
    → length new ≤ length names + 1 → Reading text tokens (i + 1) (toks ++ t ∷ []) old new
reading_more text tokens i toks old names new x t r e is table front distinct grown =
    let before = toks_kept text names new front (take i tokens) toks r.seen in
    let room = r.grown in
    record {
      seen = rw (add-one, take_more tokens i x e) (one_more text new (take i tokens) toks x t before is);
      table = table ∙ ap (λ ns. with_word x.kind (bytes_in text x.span) ns) r.table ∙ sym (rw (add-one, take_more tokens i x e) (interned_more text (take i tokens) x old));
      kept = front_of_front old names new r.kept front;
      distinct = λ d. distinct (r.distinct d);
      grown = omega arith;
    }
