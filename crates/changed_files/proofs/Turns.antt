-- The edits of files, one file after another.
use Rattle.std.proofs.Common.{◌≡◌, ℕ, zero, suc, ◌+◌, ◌<◌, Bool, false, List, [], ◌∷◌, ◌++◌, length, drop, get_or, map, Some, None, refl, sym, ◌∙◌, ap, subst, arith, add-one, append_assoc}
use Rattle.std.specs.Prelude.{Option}
use Rattle.std.specs.Option.{option_map}
use Rattle.std.proofs.Math.Seq.{drop-cons}
use Rattle.java_tree.specs.declared.tree.SourceUnit.{SourceUnit}
use Rattle.java_tree.specs.declared.tree.Span.{Span}
use Rattle.java_tree.specs.declared.tree.Token.{Token}
use Rattle.java_tree.specs.View.{unit_plain}
use Rattle.java_lexer.specs.Lexing.{Lexes}
use Rattle.edit_writer.specs.declared.edits.Edit.{Edit}
use Rattle.changed_files.specs.FileEdits.{file_edits}
use Rattle.changed_files.specs.NewFiles.{AreTokens, onto, all_edits}

pub first_left : {A : Type 0} (xs : List A) (i : ℕ) (x : A) → i < length xs → x ≡ get_or xs i x → drop i xs ≡ x ∷ drop (i + 1) xs
first_left xs i x lt is = rw (add-one, drop-cons xs i x lt) (ap (λ y. y ∷ drop (suc i) xs) (sym is))

-- what is read of an item is the item
pub item : {A : Type 0} (xs : List A) (i : ℕ) (x r : A) → x ≡ r → r ≡ get_or xs i r → x ≡ get_or xs i x
item xs i x r e is = rw e is

-- ---- tokens

count_tokens : (xs : List (List ℕ)) (tss : List (List Token)) → AreTokens xs tss → length tss ≡ length xs
count_tokens [] tss are = ap length are
count_tokens (x ∷ xs) [] are = absurd are
count_tokens (x ∷ xs) (ts ∷ tss) are = ap suc (count_tokens xs tss are.1)

tokens_at : (xs : List (List ℕ)) (tss : List (List Token)) (i : ℕ) (x : List ℕ) → AreTokens xs tss → i < length xs → Lexes (get_or xs i x) (get_or tss i [])
tokens_at [] tss i x are lt = absurd (omega arith)
tokens_at (y ∷ xs) [] i x are lt = absurd are
tokens_at (y ∷ xs) (ts ∷ tss) zero x are lt = are.0
tokens_at (y ∷ xs) (ts ∷ tss) (suc i) x are lt = tokens_at xs tss i x are.1 (omega arith)

-- the tokens of a text
pub tokens_of : (xs : List (List ℕ)) (tss : List (List Token)) (i : ℕ) (x : List ℕ) → AreTokens xs tss → i < length xs → x ≡ get_or xs i x → Lexes x (get_or tss i [])
tokens_of xs tss i x are lt is = subst (λ y. Lexes y (get_or tss i [])) (sym is) (tokens_at xs tss i x are lt)

-- ---- edits

same_at : {A : Type 0} (l : List A) (j : ℕ) (d : A) → j < length l → get_or l j d ≡ get_or l j (get_or l j d)
same_at [] j d lt = absurd (omega arith)
same_at (y ∷ l) zero d lt = refl
same_at (y ∷ l) (suc j) d lt = same_at l j d (omega arith)

-- What is known where the edits of file i are made: it is one of as many texts as there are trees, tokens and heads.
pub record Turn (xs : List (List ℕ)) (tss : List (List Token)) (units : List SourceUnit) (bs : List Bool) (hss : List (List Span)) (i : ℕ) (x : List ℕ) (u : SourceUnit) (hs : List Span) : Type 0 where
  pub tokens : AreTokens xs tss
  pub units_len : length units ≡ length xs
  pub sees_len : length bs ≡ length xs
  pub heads_len : length hss ≡ length xs
  pub within : i < length xs
  pub text : x ≡ get_or xs i x
  pub tree : u ≡ get_or units i u
  pub heads : hs ≡ get_or hss i hs

-- the edits of the files from the one with this number on
abbrev pub edits_from : ℕ → List (List ℕ) → List (List Token) → List SourceUnit → List Bool → List (List Span) → List ℕ → List ℕ → Option (List (List Edit))
edits_from i xs tss units bs hss name full = all_edits (drop i xs) (drop i tss) (map unit_plain (drop i units)) (drop i bs) (drop i hss) name full

first_file : (xs : List (List ℕ)) (tss : List (List Token)) (units : List SourceUnit) (bs : List Bool) (hss : List (List Span)) (name full : List ℕ) (i : ℕ) (x : List ℕ) (u : SourceUnit) (hs : List Span)
    → Turn xs tss units bs hss i x u hs
    → edits_from i xs tss units bs hss name full
    ≡ onto (file_edits x (get_or tss i []) (unit_plain u) (get_or bs i false) hs name full) (edits_from (i + 1) xs tss units bs hss name full)
first_file xs tss units bs hss name full i x u hs t =
    let count = count_tokens xs tss t.tokens in
    let tokens_in : i < length tss = omega arith in
    let units_in : i < length units = omega arith in
    let sees_in : i < length bs = omega arith in
    let heads_in : i < length hss = omega arith in
    rw (
      first_left xs i x t.within t.text,
      first_left tss i (get_or tss i []) tokens_in (same_at tss i [] tokens_in),
      first_left units i u units_in t.tree,
      first_left bs i (get_or bs i false) sees_in (same_at bs i false sees_in),
      first_left hss i hs heads_in t.heads,
    ) refl

-- the file has no edits
pub stopped : (all : List (List Edit)) (made : Option (List Edit)) (whole : Option (List (List Edit)))
    (xs : List (List ℕ)) (tss : List (List Token)) (units : List SourceUnit) (bs : List Bool) (hss : List (List Span)) (name full : List ℕ) (i : ℕ) (x : List ℕ) (u : SourceUnit) (hs : List Span)
    → Turn xs tss units bs hss i x u hs
    → made ≡ file_edits x (get_or tss i []) (unit_plain u) (get_or bs i false) hs name full
    → option_map (λ ess. all ++ ess) (edits_from i xs tss units bs hss name full) ≡ whole
    → made ≡ None → None ≡ whole
stopped all made whole xs tss units bs hss name full i x u hs t made_is now none =
    let first = first_file xs tss units bs hss name full i x u hs t in
    let it : file_edits x (get_or tss i []) (unit_plain u) (get_or bs i false) hs name full ≡ None = sym made_is ∙ none in
    sym (ap (λ r. option_map (λ ess. all ++ ess) (onto r (edits_from (i + 1) xs tss units bs hss name full))) it) ∙ sym (ap (option_map (λ ess. all ++ ess)) first) ∙ now

one_done : (all : List (List Edit)) (es : List Edit) (rest : Option (List (List Edit)))
    → option_map (λ ess. (all ++ (es ∷ [])) ++ ess) rest ≡ option_map (λ ess. all ++ ess) (onto (Some es) rest)
one_done all es None = refl
one_done all es (Some ess) = ap Some (append_assoc all (es ∷ []) ess)

-- the edits of the file go behind those that are made
pub done : (all new : List (List Edit)) (es : List Edit) (made : Option (List Edit)) (whole : Option (List (List Edit)))
    (xs : List (List ℕ)) (tss : List (List Token)) (units : List SourceUnit) (bs : List Bool) (hss : List (List Span)) (name full : List ℕ) (i : ℕ) (x : List ℕ) (u : SourceUnit) (hs : List Span)
    → Turn xs tss units bs hss i x u hs
    → made ≡ file_edits x (get_or tss i []) (unit_plain u) (get_or bs i false) hs name full
    → option_map (λ ess. all ++ ess) (edits_from i xs tss units bs hss name full) ≡ whole
    → made ≡ Some es → new ≡ all ++ (es ∷ []) → option_map (λ ess. new ++ ess) (edits_from (i + 1) xs tss units bs hss name full) ≡ whole
done all new es made whole xs tss units bs hss name full i x u hs t made_is now some new_is =
    let rest = edits_from (i + 1) xs tss units bs hss name full in
    let first = first_file xs tss units bs hss name full i x u hs t in
    let it : file_edits x (get_or tss i []) (unit_plain u) (get_or bs i false) hs name full ≡ Some es = sym made_is ∙ some in
    ap (λ (a : List (List Edit)). option_map (λ ess. a ++ ess) rest) new_is ∙ one_done all es rest
    ∙ sym (ap (λ r. option_map (λ ess. all ++ ess) (onto r rest)) it) ∙ sym (ap (option_map (λ ess. all ++ ess)) first) ∙ now
