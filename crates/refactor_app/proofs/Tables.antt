-- Tables of names: the first names of one, and those of texts.
use Rattle.std.proofs.Common.{◌≡◌, ℕ, zero, suc, ◌<◌, ◌≤◌, List, [], ◌∷◌, length, take, get_or, slice_get, Some, refl, ◌∙◌, ap, arith}
use Rattle.java_tree.specs.Names.{IsFront, IsTable}
use Rattle.java_tree.proofs.Tables.{with_text_table}
use Rattle.java_tree.specs.declared.tree.Token.{Token}
use Rattle.java_tree.specs.declared.tree.Kind.{Kind}
use Rattle.java_tree.specs.declared.tree.Kind.TheVariants as kind
use Rattle.java_grammar.specs.Sorts.{bytes_in}
use Rattle.java_grammar.specs.Interned.{interned, with_word}

-- ---- the first names

pub front_taken : (old new : List (List ℕ)) → IsFront old new → take (length old) new ≡ old
front_taken [] new f = refl
front_taken (x ∷ xs) [] f = absurd (let e = f 0 x refl in cc)
front_taken (x ∷ xs) (y ∷ ys) f =
    let first = f 0 x refl in
    let same : y ≡ x = cc in
    let rest = front_taken xs ys (λ n t e. f (suc n) t e) in
    ap (λ z. z ∷ take (length xs) ys) same ∙ ap (λ zs. x ∷ zs) rest

pub front_long : (old new : List (List ℕ)) → IsFront old new → length old ≤ length new
front_long [] new f = omega arith
front_long (x ∷ xs) [] f = absurd (let e = f 0 x refl in cc)
front_long (x ∷ xs) (y ∷ ys) f = let rest = front_long xs ys (λ n t e. f (suc n) t e) in omega (arith, rest)

there : (xs : List (List ℕ)) (k : ℕ) (x : List ℕ) → slice_get xs k ≡ Some x → (k < length xs) × (get_or xs k [] ≡ x)
there [] k x e = absurd (cc)
there (y ∷ ys) zero x e = (omega arith, cc)
there (y ∷ ys) (suc k) x e = let h = there ys k x e in (omega (arith, h.0), h.1)

-- the built-in names come first
pub built_in_first : (names : List (List ℕ)) → IsTable names → 19 ≤ length names
built_in_first names table = let e = table.built_in 18 _ refl in let h = there names 18 _ e in omega (arith, h.0)

-- ---- what the names of a text make of it

with_word_table : (k : Kind) (w : List ℕ) (names : List (List ℕ)) → IsTable names → IsTable (with_word k w names)
with_word_table kind.Word w names is = with_text_table w names is
with_word_table kind.Keyword w names is = is
with_word_table kind.Int w names is = is
with_word_table kind.Long w names is = is
with_word_table kind.Float w names is = is
with_word_table kind.Char w names is = is
with_word_table kind.Text w names is = is
with_word_table kind.Op w names is = is

pub interned_table : (text : List ℕ) (xs : List Token) (names : List (List ℕ)) → IsTable names → IsTable (interned text xs names)
interned_table text [] names is = is
interned_table text (x ∷ xs) names is = interned_table text xs (with_word x.kind (bytes_in text x.span) names) (with_word_table x.kind (bytes_in text x.span) names is)
