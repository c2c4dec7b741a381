-- Look-ups in a list of words.
use Rattle.std.proofs.Common.{◌≡◌, ℕ, Bool, true, false, cond, ◌==◌, ◌&&◌, ◌||◌, ap, subst, codes, List, [], ◌∷◌, refl, sym}
use Rattle.std.proofs.lemmas.Slice.Eq.{bytes_eq-Decides}
use Rattle.std.proofs.Common.{arith}
use Rattle.std.proofs.lemmas.Bool.Decides.{nat_tests}
use Rattle.std.specs.List.{list_any, list_all}
use Rattle.java_lexer.specs.Bytes.{head, keywords, is_keyword}
use Rattle.java_lexer.specs.Scan.{with_head}
use Rattle.std.specs.Str.{bytes_eq}

bytes_eq_turned : (v w : List ℕ) → bytes_eq v w ≡ bytes_eq w v
bytes_eq_turned v w = by_test (bytes_eq v w) (bytes_eq w v) refl refl
  where
    by_test : (a b : Bool) → bytes_eq v w ≡ a → bytes_eq w v ≡ b → a ≡ b
    by_test true true e f = refl
    by_test false false e f = refl
    by_test true false e f = let same : w ≡ v = sym ((bytes_eq-Decides v w).0 e) in let t = (bytes_eq-Decides w v).1 same in cc
    by_test false true e f = let same : v ≡ w = sym ((bytes_eq-Decides w v).0 f) in let t = (bytes_eq-Decides v w).1 same in cc

pub any_turned : (w : List ℕ) (ks : List (List ℕ)) → list_any (λ k. bytes_eq k w) ks ≡ list_any (bytes_eq w) ks
any_turned w [] = refl
any_turned w (k ∷ ks) = rw (bytes_eq_turned k w, any_turned w ks) refl

-- a word is one of those with its first byte, or none
pub any_with_head : (w : List ℕ) (ks : List (List ℕ)) → list_any (bytes_eq w) (with_head (head w) ks) ≡ list_any (bytes_eq w) ks
unfolding with_head
any_with_head w [] = refl
any_with_head w (k ∷ ks) = by_test _ _ refl refl (any_with_head w ks)
  where
    by_test : (t u : Bool) → (head k == head w) ≡ t → bytes_eq w k ≡ u → list_any (bytes_eq w) (with_head (head w) ks) ≡ list_any (bytes_eq w) ks
        → list_any (bytes_eq w) (cond t (k ∷ with_head (head w) ks) (with_head (head w) ks)) ≡ (bytes_eq w k || list_any (bytes_eq w) ks)
    by_test true u e f h = ap (λ x. bytes_eq w k || x) h
    by_test false false e f h = rw f h
    by_test false true e f h =
        let same : w ≡ k = (bytes_eq-Decides w k).0 f in
        let heads : head k ≡ head w = ap head (sym same) in
        let t : (head k == head w) ≡ true = grind (arith, nat_tests) in cc

-- the first bytes of keywords
abbrev pub is_letter : ℕ → Bool
is_letter b = (b == 97) || (b == 98) || (b == 99) || (b == 100) || (b == 101) || (b == 102) || (b == 103) || (b == 105) || (b == 108) || (b == 110) || (b == 112) || (b == 114) || (b == 115) || (b == 116) || (b == 118) || (b == 119)

none_with_head : (q : ℕ → Bool) (b : ℕ) (ks : List (List ℕ)) → list_all (λ k. q (head k)) ks ≡ true → q b ≡ false → with_head b ks ≡ []
unfolding with_head
none_with_head q b [] all no_b = refl
none_with_head q b (k ∷ ks) all no_b = by_test _ _ refl refl all (none_with_head q b ks)
  where
    by_test : (t u : Bool) → (head k == b) ≡ t → q (head k) ≡ u → (u && list_all (λ k. q (head k)) ks) ≡ true → (list_all (λ k. q (head k)) ks ≡ true → q b ≡ false → with_head b ks ≡ [])
        → cond t (k ∷ with_head b ks) (with_head b ks) ≡ []
    by_test t false e f all later = absurd (cc)
    by_test false true e f all later = later all no_b
    by_test true true e f all later = let same : head k ≡ b = grind (arith, nat_tests) in let g : q b ≡ true = subst (λ x. q x ≡ true) same f in absurd (cc)

pub no_keyword : (w : List ℕ) (b : ℕ) → is_letter b ≡ false → false ≡ list_any (bytes_eq w) (with_head b keywords)
no_keyword w b e = ap (list_any (bytes_eq w)) (sym (none_with_head is_letter b keywords refl e))

pub keyword_nil : is_keyword [] ≡ false
keyword_nil = refl

pub head_a : with_head 97 keywords ≡ codes "abstract" ∷ codes "assert" ∷ []
unfolding with_head
head_a = refl

pub head_b : with_head 98 keywords ≡ codes "boolean" ∷ codes "break" ∷ codes "byte" ∷ []
unfolding with_head
head_b = refl

pub head_c : with_head 99 keywords ≡ codes "case" ∷ codes "catch" ∷ codes "char" ∷ codes "class" ∷ codes "const" ∷ codes "continue" ∷ []
unfolding with_head
head_c = refl

pub head_d : with_head 100 keywords ≡ codes "default" ∷ codes "do" ∷ codes "double" ∷ []
unfolding with_head
head_d = refl

pub head_e : with_head 101 keywords ≡ codes "else" ∷ codes "enum" ∷ codes "extends" ∷ []
unfolding with_head
head_e = refl

pub head_f : with_head 102 keywords ≡ codes "final" ∷ codes "finally" ∷ codes "float" ∷ codes "for" ∷ codes "false" ∷ []
unfolding with_head
head_f = refl

pub head_g : with_head 103 keywords ≡ codes "goto" ∷ []
unfolding with_head
head_g = refl

pub head_i : with_head 105 keywords ≡ codes "if" ∷ codes "implements" ∷ codes "import" ∷ codes "instanceof" ∷ codes "int" ∷ codes "interface" ∷ []
unfolding with_head
head_i = refl

pub head_l : with_head 108 keywords ≡ codes "long" ∷ []
unfolding with_head
head_l = refl

pub head_n : with_head 110 keywords ≡ codes "native" ∷ codes "new" ∷ codes "null" ∷ []
unfolding with_head
head_n = refl

pub head_p : with_head 112 keywords ≡ codes "package" ∷ codes "private" ∷ codes "protected" ∷ codes "public" ∷ []
unfolding with_head
head_p = refl

pub head_r : with_head 114 keywords ≡ codes "return" ∷ []
unfolding with_head
head_r = refl

pub head_s : with_head 115 keywords ≡ codes "short" ∷ codes "static" ∷ codes "strictfp" ∷ codes "super" ∷ codes "switch" ∷ codes "synchronized" ∷ []
unfolding with_head
head_s = refl

pub head_t : with_head 116 keywords ≡ codes "this" ∷ codes "throw" ∷ codes "throws" ∷ codes "transient" ∷ codes "try" ∷ codes "true" ∷ []
unfolding with_head
head_t = refl

pub head_v : with_head 118 keywords ≡ codes "void" ∷ codes "volatile" ∷ []
unfolding with_head
head_v = refl

pub head_w : with_head 119 keywords ≡ codes "while" ∷ []
unfolding with_head
head_w = refl
